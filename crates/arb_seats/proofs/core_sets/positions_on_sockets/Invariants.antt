use Rattle.std.proofs.Common.{◌≡◌, ℕ, ◌<◌, length}
use Rattle.std.specs.Prelude.{◌==◌, slice_index}
use Rattle.arb_config.specs.Machine.{socket_by_position}
use Rattle.arb_seats.specs.CoreSets.{IsSetOf}
use Rattle.arb_config.specs.Limits.{max_sockets}
use Rattle.arb_seats.proofs.core_sets.positions_on_sockets.Given as goal

abbrev pub invariant-loop-position : goal.invariant-loop-position
invariant-loop-position l = record {
  long : length l.on_socket ≡ max_sockets;
  so_far : (socket : ℕ) → socket < max_sockets → IsSetOf (slice_index l.on_socket socket) l.position (λ p. slice_index (socket_by_position l.topology) p == socket);
}
