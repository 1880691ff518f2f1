use Rattle.std.proofs.Common.{None, arith, subst}
use Rattle.arb_share.specs.Demands.{AreDemands}
use Rattle.arb_share.proofs.DueLaws.{filled-next}
use Rattle.arb_share.proofs.due_numbers.due.Goals as goal

pub loop-app-preserved : goal.loop-app-preserved
loop-app-preserved c =
    let requests = c.args.requests.now in
    subst (AreDemands c.set.new.self) (filled-next requests c.loop-app.app 16 None c.index-requests-app.result (omega (arith, c.type_inv.requests, c.loop-app-test.true)) c.loop-app-test.true)
    (c.set.ensures _ c.loop-app.invariant)
