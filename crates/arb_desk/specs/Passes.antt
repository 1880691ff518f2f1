-- What a pass knows, how that changes, and which queue it is of.
use Rattle.std.specs.Prelude.{ℕ, ◌≡◌, ◌==◌, Bool, true, false, ◌||◌, Option, List, [], ◌∷◌, ◌++◌}
use Rattle.atomic_table.specs.Seated.{TableId}
use Rattle.crossbeam_queue.specs.declared.array_queue.Doing.{Doing}
use Rattle.crossbeam_queue.specs.declared.array_queue.Slotted.{Slotted}
use Rattle.crossbeam_queue.specs.Passes.{Pass}
use Rattle.arb_desk.specs.declared.message.Message.{Message}
use Rattle.arb_desk.specs.declared.rule.PassView.{PassView}

-- the server's pass: what it took, and for which clients it made passes
abbrev pub server_view : List Message → List ℕ → PassView
server_view taken made = record { is_server = true; taken = taken; made = made; is_client = false; client = 0; put = [] }

-- the pass of a client: what it put
abbrev pub client_view : ℕ → List Message → PassView
client_view client put = record { is_server = false; taken = []; made = []; is_client = true; client = client; put = put }

-- a pass that was taken in by another: it neither takes nor puts
abbrev pub spent_view : PassView
spent_view = record { is_server = false; taken = []; made = []; is_client = false; client = 0; put = [] }

-- whether a number is among the numbers
abbrev pub has : ℕ → List ℕ → Bool
has n [] = false
has n (x ∷ xs) = (x == n) || has n xs

-- the pass has put one message more
abbrev pub puts : PassView → Message → PassView
puts v m = record v { put = v.put ++ m ∷ [] }

-- the pass has taken one message more
abbrev pub takes : PassView → Message → PassView
takes v m = record v { taken = v.taken ++ m ∷ [] }

-- the pass has made that of a client
abbrev pub makes : PassView → ℕ → PassView
makes v client = record v { made = client ∷ v.made }

-- the server's pass has taken in a client's
abbrev pub absorbs : PassView → PassView → PassView
absorbs v w = record v { is_client = true; client = w.client; put = w.put }

-- which queue it is
abbrev pub QueueId : Type 0
QueueId = TableId

-- the queue's
abbrev pub queue_id : {Q A : Type 0} → Slotted (Option Message) (Doing Message PassView) Q A → QueueId
queue_id q = q.table.shared.table_id

-- a pass of that queue, with no place of the queue out
abbrev pub IsPassAt : QueueId → Pass Message PassView → Type 0
IsPassAt queue pass = (pass.table_id ≡ queue) × (pass.me.1 ≡ [])
