use Rattle.arb_seats.proofs.Words.{app_of, arith, take-set-lt}
use Rattle.arb_seats.proofs.CoreTableLaws.{counts_few, sets_given}
use Rattle.arb_seats.proofs.core_table.Cores.give.Goals as goal

pub add_one-requires-clause-few : goal.add_one-requires-clause-few
add_one-requires-clause-few c = counts_few c.self.invariant (app_of c.args.thread) c.socket_of-socket.result (omega arith) (omega arith)

pub invariant_of-self : goal.invariant_of-self
invariant_of-self c =
    sets_given _ c.self.invariant (grind arith) c.requires.thread (grind arith) c.mark.ensures
    c.put_position-self-inside.ensures (rw c.socket_of-socket.ensures.socket at c.add_one.ensures)

pub returns : goal.returns
returns c = grind (arith, take-set-lt)
