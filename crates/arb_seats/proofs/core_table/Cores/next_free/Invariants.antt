use Rattle.arb_seats.proofs.Words.{◌<◌, ◌≤◌, socket_by_position}
use Rattle.arb_config.specs.Limits.{max_sockets}
use Rattle.arb_seats.proofs.NextFreeLaws.{LookedAt}
use Rattle.arb_seats.proofs.core_table.Cores.next_free.Given as goal

abbrev pub invariant-loop-socket : goal.invariant-loop-socket
invariant-loop-socket l = record {
  looked : LookedAt (socket_by_position l.self.machine) l.self.cores l.app l.socket l.best l.most;
  low : l.best ≤ l.socket;
  within : l.best < max_sockets;
}
