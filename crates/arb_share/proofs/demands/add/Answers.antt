use Rattle.std.proofs.Common.{arith}
use Rattle.std.proofs.lemmas.Grind.{same_number_lists}
use Rattle.arb_share.proofs.DueLaws.{length-add_rows, get_or-add_rows}
use Rattle.arb_share.proofs.demands.add.Goals as goal

pub returns : goal.returns
returns c =
    same_number_lists _ _ (omega (arith, length-add_rows c.args.due.now c.args.shares.now, c.told-due, c.loop-app.invariant.2)) (λ k h. grind (arith, c.told-due, c.loop-app.invariant.0 k, c.loop-app.invariant.2, get_or-add_rows))
