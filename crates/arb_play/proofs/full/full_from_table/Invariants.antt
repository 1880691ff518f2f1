use Rattle.std.proofs.Common.{◌≡◌, ◌<◌, ◌≤◌, ℕ, slice_index, length, drop}
use Rattle.arb_model.specs.Limits.{clients}
use Rattle.arb_play.specs.Joining.{full_from_of}
use Rattle.arb_play.proofs.full.full_from_table.Given as goal

-- the table is that of the pairs from this one on
abbrev pub invariant-loop-left : goal.invariant-loop-left
invariant-loop-left l =
    (l.left ≤ length l.pairs) × (length l.table ≡ clients)
    × ((client : ℕ) → client < clients → slice_index l.table client ≡ full_from_of client (drop l.left l.pairs))

abbrev pub decreases-loop-left : goal.decreases-loop-left
decreases-loop-left l = l.left
