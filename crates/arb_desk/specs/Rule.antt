-- The rule of the queue, and what a call learns of it.
use Rattle.std.specs.Prelude.{ℕ, ◌≡◌, true, false, Option, Some, None, List, []}
use mathlib.Core.Option.{some}
use lib.ListN.{get_elem?}
use Rattle.arb_desk.specs.declared.message.Message.{Message}
use Rattle.arb_desk.specs.declared.rule.PassView.{PassView}
use Rattle.arb_desk.specs.Messages.{ends_at_mark, put_by}
use Rattle.arb_desk.specs.Passes.{has, takes}

-- the pass of a number, which puts: it is the one pass of its client, and knows what the client put
pub record FitsClient (pass_of : ℕ → Option ℕ) (taken held : List Message) (pass : ℕ) (v : PassView) : Type 0 where
  pub only : pass_of v.client ≡ Some pass
  pub put : v.put ≡ put_by v.client taken held

-- the pass of a number, which takes: it is the one that does, and knows what was taken; a client for which it made no pass has none, and put nothing
pub record FitsServer (server : ℕ) (pass_of : ℕ → Option ℕ) (taken held : List Message) (pass : ℕ) (v : PassView) : Type 0 where
  pub only : pass ≡ server
  pub all : v.taken ≡ taken
  pub none : (client : ℕ) → has client v.made ≡ false → pass_of client ≡ None
  pub nothing : (client : ℕ) → has client v.made ≡ false → put_by client taken held ≡ []

-- what the pass of a number knows is so
pub record Fits (server : ℕ) (pass_of : ℕ → Option ℕ) (taken held : List Message) (pass : ℕ) (v : PassView) : Type 0 where
  pub as_client : v.is_client ≡ true → FitsClient pass_of taken held pass v
  pub as_server : v.is_server ≡ true → FitsServer server pass_of taken held pass v

-- the rule: there are the pass of the server, the one pass of each client that has one, and what was taken so far; no client's message follows its close mark; and what each pass knows is so
pub record IsInTurn (held : List Message) (views : List PassView) : Type 0 where
  pub server : ℕ
  pub pass_of : ℕ → Option ℕ
  pub taken : List Message
  pub marks : (client : ℕ) → ends_at_mark (put_by client taken held) ≡ true
  pub fits : (pass : ℕ) (v : PassView) → get_elem? views pass ≡ some v → Fits server pass_of taken held pass v

-- a pop: the pass has taken the oldest message, whose client has a pass
pub record Takes (v : PassView) (m : Message) (w : PassView) : Type 0 where
  pub taken : w ≡ takes v m
  pub of_client : has m.client v.made ≡ true

-- of a pass that takes and puts, and of what the queue holds: what its client put, of which nothing follows its close mark
pub record Accounts (v : PassView) (held : List Message) : Type 0 where
  pub put : v.put ≡ put_by v.client v.taken held
  pub marks : ends_at_mark v.put ≡ true
