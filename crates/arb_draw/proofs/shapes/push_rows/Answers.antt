use Rattle.arb_draw.specs.Shapes.{row_shapes}
use Rattle.arb_draw.proofs.LoopLaws.{built_more}
use Rattle.arb_draw.proofs.shapes.push_rows.Goals as goal

pub loop-position-preserved : goal.loop-position-preserved
loop-position-preserved c = built_more (row_shapes c.args.topology.now c.args.layout) c.loop-position.position c.args.shapes.now.items c.loop-position.shapes.items c.push_row.new.shapes.items c.loop-position.invariant (c.in_ok-push_row.ensures {u = tt})
