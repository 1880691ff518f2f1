use Rattle.std.proofs.Common.{◌≡◌, ℕ, ◌+◌, ◌<◌, ◌≤◌, length, slice_index}
use Rattle.arb_share.proofs.demands.add.Given as goal

abbrev pub invariant-loop-app : goal.invariant-loop-app
invariant-loop-app l =
    ((k : ℕ) → k < l.app → slice_index l.due k ≡ slice_index l.fn.due k + slice_index l.shares k)
    × ((k : ℕ) → l.app ≤ k → slice_index l.due k ≡ slice_index l.fn.due k)
    × (length l.due ≡ length l.fn.due)
