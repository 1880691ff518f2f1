use Rattle.std.proofs.Common.{◌≡◌, ℕ, ◌<◌, true, false, slice_index}
use Rattle.arb_seats.specs.Bits.{has_bit}
use Rattle.arb_seats.proofs.app_sets.AppSets.any.Given as goal

abbrev pub invariant-loop-app : goal.invariant-loop-app
invariant-loop-app l = record {
  holds : (p app : ℕ) → app < l.app → has_bit (slice_index l.self app) p ≡ true → has_bit l.all p ≡ true;
  none : (p : ℕ) → ((app : ℕ) → app < l.app → has_bit (slice_index l.self app) p ≡ false) → has_bit l.all p ≡ false;
}
