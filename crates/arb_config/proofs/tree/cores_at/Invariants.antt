use Rattle.std.proofs.Common.{◌≡◌, map, take}
use Rattle.std.specs.List.{filter_map}
use Rattle.toml.specs.View.{view}
use Rattle.arb_config.specs.Limits.{highest_core}
use Rattle.arb_config.specs.Tree.{number_within}
use Rattle.arb_config.proofs.tree.cores_at.Given as goal

abbrev pub invariant-loop-value : goal.invariant-loop-value
invariant-loop-value l = l.cores.items ≡ filter_map (number_within 0 highest_core) (map view (take l.value-index l.value-items))
