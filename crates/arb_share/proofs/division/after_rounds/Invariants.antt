use Rattle.std.proofs.Common.{◌≡◌, ℕ, ◌<◌, length, slice_index, min}
use Rattle.arb_share.proofs.division.after_rounds.Given as goal

abbrev pub invariant-loop-app : goal.invariant-loop-app
invariant-loop-app l =
    (length l.shares ≡ length l.demands) × ((k : ℕ) → k < l.app → slice_index l.shares k ≡ min (slice_index l.demands k) l.rounds)
