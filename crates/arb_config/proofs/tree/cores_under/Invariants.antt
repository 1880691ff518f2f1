use Rattle.std.proofs.Common.{◌≡◌, map, take}
use Rattle.std.specs.List.{flat_map}
use Rattle.toml.specs.View.{view}
use Rattle.arb_config.specs.Conditions.{cores_at}
use Rattle.arb_config.proofs.tree.cores_under.Given as goal

abbrev pub invariant-loop-socket : goal.invariant-loop-socket
invariant-loop-socket l = l.all.items ≡ flat_map (cores_at l.key) (map view (take l.socket-index l.socket-items))
