use Rattle.arb_draw.specs.Shapes.{step_at}
use Rattle.arb_draw.proofs.LoopLaws.{built_more}
use Rattle.arb_draw.proofs.shapes.push_steps.Goals as goal

pub loop-index-preserved : goal.loop-index-preserved
loop-index-preserved c = built_more (step_at c.args.xs.now c.args.values.now c.args.base c.args.peak) c.loop-index.index c.args.shapes.now.items c.loop-index.shapes.items c.push_step.new.shapes.items c.loop-index.invariant (c.in_ok-push_step.ensures {u = tt})
