use Rattle.std.proofs.Common.{◌≡◌, ◌++◌, map, take}
use Rattle.std.specs.List.{filter_map}
use Rattle.toml.specs.View.{view}
use Rattle.arb_config.specs.Limits.{highest_core}
use Rattle.arb_config.specs.Tree.{number_within}
use Rattle.arb_c.specs.Holding.{core_on}
use Rattle.arb_c.proofs.unmanaged.add_cores.Given as goal

abbrev pub invariant-loop-listed : goal.invariant-loop-listed
invariant-loop-listed l =
    l.cores.items ≡ l.initial.cores.items
    ++ map (core_on l.socket) (filter_map (number_within 0 highest_core) (map view (take l.listed-index l.listed-items)))
