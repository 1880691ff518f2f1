use Rattle.std.proofs.Common.{take}
use Rattle.arb_seats.proofs.SlotsLaws.{are_threads, once_known}
use Rattle.arb_seats.proofs.waiting.Waiting.count_of.Goals as goal

pub returns-clause-threads : goal.returns-clause-threads
returns-clause-threads c = rw (← c.self.view_is) (are_threads (take c.self.inside.len c.self.inside.slots))

pub returns-clause-once : goal.returns-clause-once
returns-clause-once c = rw (← c.self.view_is) (once_known (take c.self.inside.len c.self.inside.slots) c.self.inside.slot_of c.self.invariant.1.known)
