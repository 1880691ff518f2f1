use Rattle.arb_draw.specs.Bars.{bars_from}
use Rattle.arb_draw.proofs.LoopLaws.{built_more}
use Rattle.arb_draw.proofs.bar.push_row.Goals as goal

pub loop-index-preserved : goal.loop-index-preserved
loop-index-preserved c = built_more (bars_from c.args.part c.args.core c.args.first c.args.row.now) c.loop-index.index c.args.bars.now.items c.loop-index.bars.items c.push_bar.new.bars.items c.loop-index.invariant (c.in_ok-push_bar.ensures {u = tt})
