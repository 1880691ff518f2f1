use Rattle.std.proofs.Common.{◌≡◌, ◌+◌, ◌-◌, ◌<◌, ℕ, length, arith, ◌∙◌, sym, subst}
use Rattle.std.proofs.lemmas.List.{length-replicate, length-set}
use Rattle.arb_model.specs.Limits.{clients}
use Rattle.arb_play.proofs.FullFromLaws.{table_begins, table_more}
use Rattle.arb_play.proofs.full.full_from_table.Goals as goal

pub loop-left-init : goal.loop-left-init
loop-left-init c = (omega arith, length-replicate {A = ℕ} clients 0, table_begins c.args.pairs.now)

pub loop-left-preserved : goal.loop-left-preserved
loop-left-preserved c =
    let left = c.loop-left.left in
    let most = c.loop-left.invariant.0 in
    let is : left ≡ (left - 1) + 1 = omega (arith, c.loop-left-test.true) in
    let size = c.loop-left.invariant.1 in
    let fits : c.index.result < length c.loop-left.table = subst (λ n. c.index.result < n) (sym size) c.index.ensures.within in (
      omega (arith, most),
      length-set c.loop-left.table _ _ ∙ size,
      λ client below. table_more c.args.pairs.now c.loop-left.table (left - 1) left client c.index.result _ _ is most c.index.ensures.value fits (c.loop-left.invariant.2 client below),
    )
