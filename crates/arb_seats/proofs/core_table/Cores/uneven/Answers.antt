use Rattle.arb_seats.proofs.Words.{arith, nat_tests, written}
use Rattle.arb_seats.proofs.core_table.Cores.uneven.Goals as goal

pub loop-app-preserved : goal.loop-app-preserved
loop-app-preserved c = grind (arith, written)

pub returns : goal.returns
returns c = λ app. grind (arith, nat_tests, c.differing.ensures app, c.loop-app.invariant.asked app, c.loop-app.invariant.over app)
