use Rattle.std.proofs.Common.{◌∙◌, ◌<◌, slice_index, subst}
use Rattle.arb_play.proofs.FullFromLaws.{not_full}
use Rattle.arb_play.proofs.full.any_full.Goals as goal

pub loop-index-preserved : goal.loop-index-preserved
loop-index-preserved c =
    c.loop-index.invariant
    ∙ not_full (slice_index c.args.full_from.now) c.args.script.now c.loop-index.index _ c.client.ensures
    (subst (λ i. c.loop-index.index < slice_index c.args.full_from.now i) c.index.ensures.value c.if-full_from-index.false)
