-- A server, and what it leaves.
use Rattle.std.specs.Prelude.{ℕ, ◌≡◌, ◌+◌, Bool, true, Some, List, slice_get}
use Rattle.arb_model.specs.History.{History}
use Rattle.arb_desk.specs.declared.message.Message.{Message}
use Rattle.arb_desk.specs.Messages.{is_closed, messages_by}
use Rattle.arb_desk.specs.Passes.{QueueId}

-- a server, as contracts see it: the history so far, the messages that it took, its clients, and which of them have closed; for how many entries its journal has room; and the queue of which it takes messages
pub record ServerState : Type 0 where
  pub seen : History
  pub taken : List Message
  pub clients : List ℕ
  pub closed : List Bool
  pub room : ℕ
  pub queue : QueueId

-- what a server leaves beside its journal: the history, and how many steps it made on the pages; the messages that it took, its clients, and the queue of which it took messages
pub record Remains : Type 0 where
  pub seen : History
  pub steps : ℕ
  pub taken : List Message
  pub clients : List ℕ
  pub queue : QueueId

-- of each client that is marked as closed the close mark was taken
abbrev pub Marked : List ℕ → List Bool → List Message → Type 0
Marked clients closed taken = (index client : ℕ) → slice_get clients index ≡ Some client → slice_get closed index ≡ Some true → is_closed (messages_by client taken) ≡ true

-- the close mark of each client was taken
abbrev pub AllClosed : List ℕ → List Message → Type 0
AllClosed clients taken = (index client : ℕ) → slice_get clients index ≡ Some client → is_closed (messages_by client taken) ≡ true

-- what a server leaves, after so many steps more on the pages; all else is as it was
abbrev pub stepped : Remains → ℕ → Remains
stepped r n = record r { steps = r.steps + n }
