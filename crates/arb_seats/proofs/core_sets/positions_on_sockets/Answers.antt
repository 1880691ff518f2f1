use Rattle.arb_seats.proofs.Words.{arith, nat_tests, common_steps, length-set, get_or-set_same}
use Rattle.arb_seats.proofs.core_sets.positions_on_sockets.Goals as goal

pub loop-position-preserved : goal.loop-position-preserved
loop-position-preserved c = grind (arith, nat_tests, common_steps, length-set, get_or-set_same)
