-- Before an index each count is a sum, and from there on it is as it was.
use Rattle.std.proofs.Common.{◌≡◌, ℕ, ◌+◌, ◌<◌, ◌≤◌, length, slice_index}
use Rattle.arb_c.proofs.earlier.add_each.Given as goal

abbrev pub invariant-loop-client : goal.invariant-loop-client
invariant-loop-client l = record {
  long : length l.earlier ≡ length l.fn.earlier;
  done : (k : ℕ) → k < l.client → slice_index l.earlier k ≡ slice_index l.fn.earlier k + slice_index l.counts k;
  left : (k : ℕ) → l.client ≤ k → slice_index l.earlier k ≡ slice_index l.fn.earlier k;
}
