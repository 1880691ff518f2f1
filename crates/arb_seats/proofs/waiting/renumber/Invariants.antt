use Rattle.arb_seats.proofs.Words.{◌≡◌, ℕ, ◌<◌, length, slice_index, times_waiting, all_threads}
use Rattle.arb_seats.proofs.waiting.renumber.Given as goal

abbrev pub invariant-loop-slot : goal.invariant-loop-slot
invariant-loop-slot l = record {
  long : length l.slot_of ≡ all_threads;
  known : (p : ℕ) → p < l.slot → slice_index l.slot_of (slice_index l.slots p) ≡ p;
  absent : (t : ℕ) → times_waiting t l.slots ≡ 0 → slice_index l.slot_of t ≡ slice_index l.fn.slot_of t;
}
