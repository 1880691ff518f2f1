use Rattle.arb_seats.proofs.Words.{◌≡◌, ℕ, ◌<◌, length, slice_index, need_of, applications}
use Rattle.arb_seats.proofs.seats.Seating.needs.Given as goal

abbrev pub invariant-loop-app : goal.invariant-loop-app
invariant-loop-app l = (length l.needs ≡ applications) × ((k : ℕ) → k < l.app → slice_index l.needs k ≡ need_of l.self.seats l.due k)
