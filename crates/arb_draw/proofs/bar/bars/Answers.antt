use Rattle.arb_draw.specs.Bars.{bars_at}
use Rattle.arb_draw.proofs.LoopLaws.{pieces_next}
use Rattle.arb_draw.proofs.bar.bars.Goals as goal

pub loop-position-preserved : goal.loop-position-preserved
loop-position-preserved c = pieces_next (bars_at c.args.topology.now c.args.first c.args.frames.now) c.loop-position.position c.loop-position.bars.items c.push_core.new.bars.items c.loop-position.invariant (c.in_ok-push_core.ensures {u = tt})
