use Rattle.std.proofs.Common.{◌∙◌, arith, ap, ◌++◌, ◌∷◌, []}
use Rattle.arb_model.specs.Standing.{holder_at}
use Rattle.arb_draw.specs.Frames.{cell_of}
use Rattle.arb_draw.proofs.LoopLaws.{values_next}
use Rattle.arb_draw.proofs.frame.cells.Goals as goal

pub loop-position-preserved : goal.loop-position-preserved
loop-position-preserved c =
    let i = c.loop-position.invariant in
    record {
      cells = values_next (λ position. cell_of (holder_at c.args.core.now.standing.seats.cores position)) c.loop-position.position c.loop-position.cells.items c.push.new.self.items i.cells (c.push.ensures.items ∙ ap (λ x. c.loop-position.cells.items ++ x ∷ []) c.cell.ensures);
      count = omega (arith, c.push.ensures.len, i.count);
    }
