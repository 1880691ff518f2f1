-- What faults say of a script and its gate, what comes of all threads, and a client that was just opened.
use Rattle.std.specs.Prelude.{ℕ, ◌≡◌, false, IfErr, IfOk, List, Option, Some, None, Result, [], length}
use Rattle.arb_desk.specs.Passes.{QueueId}
use Rattle.arb_client.specs.Sides.{Side}
use Rattle.arb_house.specs.declared.opening.OpenFault.TheVariants.{Memory}
use Rattle.arb_script.specs.declared.given.ClientOrder.{ClientOrder}
use Rattle.arb_play.specs.declared.joining.Joined.{Joined}
use Rattle.arb_play.specs.declared.outcome.PlayFault.{PlayFault}
use Rattle.arb_play.specs.declared.outcome.PlayFault.TheVariants.{Open, Start, GaveUp, Ended, Write}
use Rattle.arb_play.specs.declared.performing.NotBegun.{NotBegun}
use Rattle.arb_play.specs.declared.performing.NotBegun.TheVariants.{Open as no_house, Start as no_thread}
use Rattle.arb_play.specs.declared.performing.Broken.{Broken}
use Rattle.arb_play.specs.declared.performing.Broken.TheVariants.{GaveUp as given_up, Ended as ended_early}
use Rattle.arb_play.specs.GivingUp.{IsGivenUp, MayBeLetThrough}
use Rattle.arb_play.specs.Joining.{AllAnswered, GivesUp}

-- opening fails only out of memory; an order that was given up is one that the gate may give up, and each earlier one is one that it may let through; where the threads ended early or a call of the writer failed, all orders are such; that a thread wasn't started says nothing
abbrev pub FaultSays : (may lets : ℕ → Type 0) → (script : List ClientOrder) → PlayFault → Type 0
FaultSays may lets script (Open fault) = fault ≡ Memory
FaultSays may lets script Start = Unit {0}
FaultSays may lets script (GaveUp order) = IsGivenUp may lets script order
FaultSays may lets script Ended = MayBeLetThrough lets (length script)
FaultSays may lets script Write = MayBeLetThrough lets (length script)

-- which fault of a play it is that it wasn't begun, or that its threads left no outcome
abbrev pub not_begun_fault : NotBegun → PlayFault
not_begun_fault (no_house fault) = Open fault
not_begun_fault no_thread = Start

abbrev pub broken_fault : Broken → PlayFault
broken_fault (given_up order) = GaveUp order
broken_fault ended_early = Ended

-- the first order that was given up breaks a play, or where none was an early end
abbrev pub IsBrokenBy : Option ℕ → Broken → Type 0
IsBrokenBy first (given_up order) = first ≡ Some order
IsBrokenBy first ended_early = first ≡ None

-- what comes of all threads: they weren't begun, or what they left
pub record RunsAll {A : Type 0} (may lets : ℕ → Type 0) (script : List ClientOrder) (result : Result (A × Joined) NotBegun) : Type 0 where
  pub fault : IfErr result (λ fault. FaultSays may lets script (not_begun_fault fault))
  pub gives_up : IfOk result (λ r. GivesUp may lets script r.1.gave_up)
  pub answered : IfOk result (λ r. r.1.gave_up ≡ None → r.1.lost ≡ false → AllAnswered script r.1.pasts.items r.1.full_from.items)

-- a client of a queue that was just opened
abbrev pub IsFresh : QueueId → Side → Type 0
IsFresh queue side = (side.out ≡ []) × (side.mine ≡ []) × (side.queue ≡ queue)
