-- Lines that come in pieces, as how much of a line they are kept, and conversations with and without a limit on orders. Words
-- of inner contracts.
use Rattle.std.specs.Prelude.{◌≡◌, ℕ, ◌+◌, ◌<◌, ◌≤◌, ◌==◌, List, [], ◌∷◌, ◌++◌, None, Result, OnOk, OnErr, if◌then◌else◌, drop, sum, take}
use Rattle.std.specs.List.{position_or_len}
use Rattle.arb_share.specs.Text.{line_feed}
use Rattle.arb_config.specs.Machine.{Machine}
use Rattle.arb_model.specs.Arbiter.{Arbiter}
use Rattle.arb_model.specs.Posting.{next_stale_of}
use Rattle.arb_model.specs.Renewal.{DifferInCounts, endless}
use Rattle.arb_model.specs.Standing.{Standing}
use Rattle.arb_script.specs.Limits.{max_line}
use Rattle.arb_live.specs.declared.answerer.Answerer.{Answerer}
use Rattle.arb_live.specs.declared.orders.Orders.{Orders}
use Rattle.arb_live.specs.declared.orders.Orders.TheVariants.{Limited, Endless}
use Rattle.arb_live.specs.declared.event.Event.TheVariants.{Flushed}
use Rattle.arb_live.specs.Events.{Told, Did, puts}
use Rattle.arb_live.specs.Live.{Talk, answers, talk_after}
use Rattle.arb_live.specs.Sent.{Counts, Writes, WrotePrefix}

-- what is kept of a line: one byte more than a line may have
abbrev pub kept : List ℕ → List ℕ
kept line = take (max_line + 1) line

-- what is kept of the lines that a text completes, where this was kept of a line before it
abbrev pub kept_lines : (begun : List ℕ) → (text : List ℕ) → List (List ℕ)
kept_lines begun [] = []
kept_lines begun (byte ∷ text) = if byte == line_feed then begun ∷ kept_lines [] text else kept_lines (kept (begun ++ byte ∷ [])) text

-- what is kept of the line that stands unfinished after a text, where this was kept of a line before it
abbrev pub begun_after : (begun : List ℕ) → (text : List ℕ) → List ℕ
begun_after begun [] = begun
begun_after begun (byte ∷ text) = if byte == line_feed then begun_after [] text else begun_after (kept (begun ++ byte ∷ [])) text

-- the first line of a text, with its LF where it has one
abbrev pub first_line : (text : List ℕ) → List ℕ
first_line text = take (position_or_len (λ byte. byte == line_feed) text + 1) text

-- what follows it
abbrev pub after_line : (text : List ℕ) → List ℕ
after_line text = drop (position_or_len (λ byte. byte == line_feed) text + 1) text

-- an unfinished line is a line where there is any of it
abbrev pub last_line : (begun : List ℕ) → List (List ℕ)
last_line [] = []
last_line (byte ∷ begun) = (byte ∷ begun) ∷ []

-- the machine that a conversation reports of: without a limit on orders it is the endless one
abbrev pub reported : Orders → Machine → Machine
reported Limited m = m
reported Endless m = endless m

-- the arbiter's standing is the talk's. Without a limit on orders it may differ in their counts, since it is renewed now and then
abbrev pub Stands : Orders → (core talk : Standing) → Type 0
Stands Limited core talk = core ≡ talk
Stands Endless core talk = DifferInCounts core talk

-- where orders have no limit, the arbiter isn't full
abbrev pub HasRoom : Orders → Arbiter → Type 0
HasRoom Limited core = Unit {0}
HasRoom Endless core = sum core.standing.counts < core.machine.orders

-- what answers lines is where a talk is. The talk has had no more orders than lines
pub record IsAt (a : Answerer) (talk : Talk) : Type 0 where
  pub lines : a.lines ≡ talk.lines
  pub standing : Stands a.orders a.core.standing talk.standing
  pub few : sum talk.standing.counts ≤ talk.lines

-- it answers for this machine, and no word is stale
pub record IsReady (m : Machine) (a : Answerer) : Type 0 where
  pub machine : a.core.machine ≡ m
  pub settled : next_stale_of a.core.standing a.core.posted ≡ None

-- lines were answered on a stream, in each talk that was there before
pub record Answered {S A E : Type 0} (told : S → Told) (reads writes : S → ℕ) (m : Machine) (old new : S) (before after : Answerer) (result : Result A E) (lines : List (List ℕ)) : Type 0 where
  pub sent : (talk : Talk) → IsAt before talk → Writes told old new result (answers (reported before.orders m) talk lines)
  pub talk : (talk : Talk) → IsAt before talk → OnOk result (IsAt after (talk_after (reported before.orders m) talk lines))
  pub counts : Counts writes reads old new result
  pub ready : IsReady m after
  pub orders : after.orders ≡ before.orders

-- lines were answered on a stream, and the answers flushed
pub record Replied {S A E : Type 0} (told : S → Told) (reads writes : S → ℕ) (m : Machine) (old new : S) (before after : Answerer) (result : Result A E) (lines : List (List ℕ)) : Type 0 where
  pub written : (talk : Talk) → IsAt before talk → OnOk result (Did (told old) (told new) (puts (answers (reported before.orders m) talk lines) ++ Flushed ∷ []))
  pub prefix : (talk : Talk) → IsAt before talk → OnErr result (WrotePrefix (told old) (told new) (answers (reported before.orders m) talk lines))
  pub talk : (talk : Talk) → IsAt before talk → OnOk result (IsAt after (talk_after (reported before.orders m) talk lines))
  pub counts : Counts writes reads old new result
  pub ready : IsReady m after
  pub orders : after.orders ≡ before.orders
