use Rattle.arb_draw.specs.Axis.{tick_at}
use Rattle.arb_draw.proofs.LoopLaws.{pieces_next}
use Rattle.arb_draw.proofs.axis.order_ticks.Goals as goal

pub loop-index-preserved : goal.loop-index-preserved
loop-index-preserved c = pieces_next (tick_at c.args.first c.args.count) c.loop-index.index c.loop-index.ticks.items c.push_tick.new.ticks.items c.loop-index.invariant (c.in_ok-push_tick.ensures {u = tt})
