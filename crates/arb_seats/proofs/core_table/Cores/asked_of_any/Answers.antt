use Rattle.arb_seats.proofs.CoreTableLaws.{asked_of_any, few_cores}
use Rattle.arb_seats.proofs.core_table.Cores.asked_of_any.Goals as goal

pub returns-clause-set : goal.returns-clause-set
returns-clause-set c = rw (← c.self.view_is) (asked_of_any c.self.invariant c.any.ensures.holds c.any.ensures.none)

pub returns-clause-few : goal.returns-clause-few
returns-clause-few c = rw (← c.self.view_is) (few_cores c.self.invariant)
