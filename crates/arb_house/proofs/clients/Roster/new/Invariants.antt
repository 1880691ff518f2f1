-- The table has the indexes of the clients so far.
use Rattle.std.proofs.Common.{take}
use Rattle.arb_house.specs.Clients.{IsTable}
use Rattle.arb_house.proofs.clients.Roster.new.Given as goal

abbrev pub invariant-loop-k : goal.invariant-loop-k
invariant-loop-k l = IsTable l.indexes (take l.k l.list)
