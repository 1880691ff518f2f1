use Rattle.std.proofs.Common.{◌≡◌, ◌∙◌, arith, ap, ◌++◌, ◌∷◌, [], map}
use Rattle.std.specs.List.{range_with_len}
use Rattle.arb_share.specs.Limits.{applications}
use Rattle.arb_draw.specs.Frames.{all_amounts, amounts_of}
use Rattle.arb_draw.proofs.LoopLaws.{values_next}
use Rattle.arb_draw.proofs.frame.all_amounts.Goals as goal

pub loop-app-preserved : goal.loop-app-preserved
loop-app-preserved c =
    let i = c.loop-app.invariant in
    record {
      amounts = values_next (amounts_of c.args.core.now.machine c.args.core.now.standing) c.loop-app.app c.loop-app.all.items c.push.new.self.items i.amounts (c.push.ensures.items ∙ ap (λ x. c.loop-app.all.items ++ x ∷ []) c.amounts.ensures);
      count = omega (arith, c.push.ensures.len, i.count);
    }

pub returns : goal.returns
unfolding all_amounts
returns c =
    let at_end : c.loop-app.app ≡ applications = omega arith in
    c.loop-app.invariant.amounts ∙ ap (λ n. map (amounts_of c.args.core.now.machine c.args.core.now.standing) (range_with_len 0 n)) at_end
