use Rattle.arb_seats.proofs.CoreTableLaws.{sets-opening, table-opening}
use Rattle.arb_seats.proofs.core_table.Cores.new.Goals as goal

pub invariant_of-result : goal.invariant_of-result
invariant_of-result c =
    rw (c.new.ensures, c.new-2.ensures)
    (sets-opening c.copied.ensures.same c.managed.ensures.machine c.positions_on_sockets.ensures (rw c.managed.ensures.count at c.below.ensures) c.new-3.ensures)

pub returns : goal.returns
returns c = table-opening c.copied.ensures.same c.managed.ensures.machine
