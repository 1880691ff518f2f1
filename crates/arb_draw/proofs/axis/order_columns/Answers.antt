use Rattle.std.proofs.Common.{◌∙◌, ap, ◌++◌, ◌∷◌, []}
use Rattle.arb_draw.specs.Axis.{order_x}
use Rattle.arb_draw.proofs.LoopLaws.{values_next}
use Rattle.arb_draw.proofs.axis.order_columns.Goals as goal

pub loop-index-preserved : goal.loop-index-preserved
loop-index-preserved c = values_next (λ index. order_x index c.args.count) c.loop-index.index c.loop-index.xs.items c.push.new.self.items c.loop-index.invariant (c.in_ok-push.ensures.items ∙ ap (λ x. c.loop-index.xs.items ++ x ∷ []) c.order_x.ensures)
