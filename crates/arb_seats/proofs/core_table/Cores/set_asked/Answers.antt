use Rattle.arb_seats.proofs.Words.{arith, take-set-lt}
use Rattle.arb_seats.proofs.CoreTableLaws.{sets_asked}
use Rattle.arb_seats.proofs.core_table.Cores.set_asked.Goals as goal

pub invariant_of-self : goal.invariant_of-self
invariant_of-self c =
    sets_asked _ c.self.invariant (grind arith) c.args.holder c.args.asked (grind arith)
    (rw c.is_some.ensures at c.mark.ensures)

pub returns : goal.returns
returns c = grind (arith, take-set-lt)
