use Rattle.std.proofs.Common.{◌≡◌, codes, map, take}
use Rattle.toml.specs.View.{view}
use Rattle.arb_config.specs.Conditions.{cores_at}
use Rattle.arb_config.proofs.tree.managed_lists.Given as goal

abbrev pub invariant-loop-socket : goal.invariant-loop-socket
invariant-loop-socket l = map (λ cores. cores.items) l.lists.items ≡ map (cores_at (codes "managed")) (map view (take l.socket-index l.socket-items))
