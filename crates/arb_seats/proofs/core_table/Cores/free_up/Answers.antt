use Rattle.arb_seats.proofs.Words.{arith, take-set-lt}
use Rattle.arb_seats.proofs.CoreTableLaws.{counts_some, marks_unasked, sets_freed}
use Rattle.arb_seats.proofs.core_table.Cores.free_up.Goals as goal

pub take_one-requires-clause-some : goal.take_one-requires-clause-some
take_one-requires-clause-some c =
    counts_some c.self.invariant c.args.thread c.args.position c.socket_of-socket.result (grind arith) (grind arith) (grind arith)
    c.socket_of-socket.ensures.socket (omega arith)

pub invariant_of-self : goal.invariant_of-self
invariant_of-self c =
    sets_freed _ c.self.invariant (grind arith) c.args.thread (grind arith) c.mark.ensures c.mark-then-asked.ensures
    c.put_position-self-inside.ensures (rw c.socket_of-socket.ensures.socket at c.take_one.ensures)

pub invariant_of-self-else-asked : goal.invariant_of-self-else-asked
invariant_of-self-else-asked c =
    sets_freed _ c.self.invariant (grind arith) c.args.thread (grind arith) c.mark.ensures (marks_unasked _ c.self.invariant (grind arith) c.args.thread (grind arith))
    c.put_position-self-inside.ensures (rw c.socket_of-socket.ensures.socket at c.take_one.ensures)

pub returns-then-asked : goal.returns-then-asked
returns-then-asked c = grind (arith, take-set-lt)

pub returns-else-asked : goal.returns-else-asked
returns-else-asked c = grind (arith, take-set-lt)
