-- A renewal: orders are counted from 0 again, and all else stays.
use Rattle.std.specs.Prelude.{◌≡◌, ◌≢◌, ℕ, ◌^◌, List, fold, replicate, slice_index, slice_set}
use Rattle.std.specs.List.{flat_map}
use Rattle.arb_config.specs.Machine.{Machine}
use Rattle.arb_model.specs.declared.orders.Order.{Order}
use Rattle.arb_model.specs.Arbiter.{Arbiter, arbiter_in, state_of}
use Rattle.arb_model.specs.History.{History, State, beginning, state_after, state_next}
use Rattle.arb_model.specs.Limits.{clients}
use Rattle.arb_model.specs.Standing.{Standing}
use Rattle.arb_model.specs.Step.{place_of, step_of}
use Rattle.arb_model.specs.Words.{word_of}

-- no order of any client is counted; requests, caps, seats and the clock stay
abbrev pub uncounted : Standing → Standing
uncounted s = record s { counts = replicate clients 0 }

-- a state after a renewal: no order is counted, and word 0, which posts their number, is 0
abbrev pub renewed_state : State → State
renewed_state k = record { standing = uncounted k.standing; posted = slice_set k.posted 0 0 }

-- an arbiter after a renewal
abbrev pub renewed : Arbiter → Arbiter
renewed a = arbiter_in a.machine (renewed_state (state_of a))

-- two standings differ in the counts of orders at most
abbrev pub DifferInCounts : Standing → Standing → Type 0
DifferInCounts s t = uncounted s ≡ uncounted t

-- callers see the same of two states: replies, places and page words are equal, but for word 0, which counts orders
pub record LookAlike (m n : Machine) (j k : State) : Type 0 where
  pub standings : DifferInCounts j.standing k.standing
  pub replies : (client : ℕ) (order : Order) → (step_of m j.standing client order).reply ≡ (step_of n k.standing client order).reply
  pub places : (thread : ℕ) → place_of m j.standing.seats thread ≡ place_of n k.standing.seats thread
  pub words : (w : ℕ) → w ≢ 0 → word_of j.standing w ≡ word_of k.standing w
  pub posted : (w : ℕ) → w ≢ 0 → slice_index j.posted w ≡ slice_index k.posted w

-- after any events, callers see the same with and without a renewal before them
abbrev pub RenewalIsUnseen : Type 0
RenewalIsUnseen = (m : Machine) (k : State) (events : History) → LookAlike m m (fold (state_next m) (renewed_state k) events) (fold (state_next m) k events)

-- a machine whose limit on orders is beyond each count of 64 bits
abbrev pub endless : Machine → Machine
endless m = record m { orders = 2 ^ 64 }

-- where histories lead one after another, with a renewal before each
abbrev pub after_renewals : Machine → List History → State
after_renewals m histories = fold (λ k h. fold (state_next m) (renewed_state k) h) (beginning m) histories

-- an arbiter that is renewed now and then looks like that of the endless machine, which never is
abbrev pub RenewedIsEndless : Type 0
RenewedIsEndless = (m : Machine) (histories : List History) → LookAlike m (endless m) (after_renewals m histories) (state_after (endless m) (flat_map (λ h. h) histories))
