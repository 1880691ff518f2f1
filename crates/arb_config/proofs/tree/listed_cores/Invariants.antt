use Rattle.std.proofs.Common.{◌≡◌, ◌++◌, codes, map, take}
use Rattle.std.specs.List.{flat_map}
use Rattle.toml.specs.View.{view}
use Rattle.arb_config.specs.Conditions.{cores_at}
use Rattle.arb_config.proofs.tree.listed_cores.Given as goal

abbrev pub invariant-loop-socket : goal.invariant-loop-socket
invariant-loop-socket l =
    l.all.items ≡ flat_map (λ socket. cores_at (codes "managed") socket ++ cores_at (codes "unmanaged") socket) (map view (take l.socket-index l.socket-items))
