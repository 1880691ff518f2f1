use Rattle.arb_seats.proofs.Words.{◌≡◌, ℕ, ◌+◌, ◌/◌, ◌<◌, ◌≤◌, slice_index, slot_count, threads}
use Rattle.arb_seats.proofs.waiting.first_of_run.Given as goal

abbrev pub invariant-loop-thread : goal.invariant-loop-thread
invariant-loop-thread l = record {
  all : (k : ℕ) → k < l.thread → l.least ≤ slice_index l.slot_of (l.from + k);
  one : l.least < slot_count → (k : ℕ) × (k < threads / 4) × (slice_index l.slot_of (l.from + k) ≡ l.least);
}
