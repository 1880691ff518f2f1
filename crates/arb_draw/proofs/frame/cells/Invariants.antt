use Rattle.std.proofs.Common.{◌≡◌, map}
use Rattle.std.specs.List.{range_with_len}
use Rattle.arrayvec.specs.ArrayVec.{array_vec_len}
use Rattle.arb_model.specs.Standing.{holder_at}
use Rattle.arb_draw.specs.Frames.{cell_of}
use Rattle.arb_draw.proofs.frame.cells.Given as goal

-- the cells of the positions before this one are there
abbrev pub invariant-loop-position : goal.invariant-loop-position
invariant-loop-position l = record {
  cells : l.cells.items ≡ map (λ position. cell_of (holder_at l.core.standing.seats.cores position)) (range_with_len 0 l.position);
  count : array_vec_len l.cells ≡ l.position;
}
