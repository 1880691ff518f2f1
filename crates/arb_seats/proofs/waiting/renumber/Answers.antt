use Rattle.arb_seats.proofs.Words.{arith, length-set, get_or-set_other, get_or-set_same, get_or-le-sum_by}
use Rattle.arb_seats.proofs.SlotsLaws.{apart}
use Rattle.arb_seats.proofs.waiting.renumber.Goals as goal

pub loop-slot-preserved : goal.loop-slot-preserved
loop-slot-preserved c =
    record {
      long = grind (arith, length-set);
      known = grind (arith, get_or-set_other, apart, get_or-set_same);
      absent = grind (arith, get_or-le-sum_by, get_or-set_other);
    }
