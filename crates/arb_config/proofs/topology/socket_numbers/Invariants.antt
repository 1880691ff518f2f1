use Rattle.std.proofs.Common.{◌≡◌, map, take}
use Rattle.arb_config.specs.Machine.{socket_numbers_from}
use Rattle.arb_config.proofs.topology.socket_numbers.Given as goal

abbrev pub invariant-loop-number : goal.invariant-loop-number
invariant-loop-number l = l.numbers.items ≡ socket_numbers_from 0 (map (λ cores. cores.items) (take l.number l.sockets))
