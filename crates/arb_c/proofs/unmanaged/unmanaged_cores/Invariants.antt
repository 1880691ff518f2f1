use Rattle.std.proofs.Common.{◌≡◌, map, take}
use Rattle.std.specs.List.{enumerate_from, flat_map}
use Rattle.toml.specs.View.{view}
use Rattle.arb_c.specs.Holding.{unmanaged_on}
use Rattle.arb_c.proofs.unmanaged.unmanaged_cores.Given as goal

abbrev pub invariant-loop-number : goal.invariant-loop-number
invariant-loop-number l = l.cores.items ≡ flat_map unmanaged_on (enumerate_from 0 (map view (take l.number l.socket-items)))
