-- The sets of positions that are kept beside the cores of a machine: words, with a bit for each position.
use Rattle.std.specs.Prelude.{◌≡◌, ℕ, ◌<◌, ◌≤◌, ◌==◌, ◌&&◌, List, Option, Bool, false, length, slice_index}
use Rattle.arb_config.specs.Machine.{IsMachine, Machine, cores_of, socket_by_position}
use Rattle.arb_model.specs.declared.holders.Holder.{Holder}
use Rattle.arb_seats.specs.Bits.{has_bit}
use Rattle.arb_seats.specs.Holders.{AreThreads}
use Rattle.arb_seats.specs.SocketCounts.{count_at}
use Rattle.arb_model.specs.Standing.{holder_at, is_asked, is_free, is_of, owned_on}
use Rattle.arb_share.specs.Limits.{applications}
use Rattle.arb_config.specs.Limits.{max_sockets}

-- how many places a set of positions has: one for each of the most positions that a machine may have
abbrev pub set_size : ℕ
set_size = 128

-- the bits of a word are set at the places below n that pass a test, and nowhere else
pub record IsSetOf (word n : ℕ) (passes : ℕ → Bool) : Type 0 where
  pub inside : (p : ℕ) → p < n → has_bit word p ≡ passes p
  pub outside : (p : ℕ) → n ≤ p → p < set_size → has_bit word p ≡ false

-- what stands beside the cores of a machine: the positions of each socket, those that each application owns, those that
-- are asked of it, the free ones, and how many each application owns on each socket
pub record AreSets (machine : Machine) (cores : List (Option Holder)) (on_socket owned_by asked : List ℕ) (free : ℕ) (counts : List ℕ) : Type 0 where
  pub is_machine : IsMachine machine
  pub one_each : length cores ≡ length (cores_of machine)
  pub threads : AreThreads cores
  pub are_on : (socket : ℕ) → socket < max_sockets → IsSetOf (slice_index on_socket socket) (length cores) (λ p. slice_index (socket_by_position machine) p == socket)
  pub are_owned : (app : ℕ) → app < applications → IsSetOf (slice_index owned_by app) (length cores) (λ p. is_of app (holder_at cores p))
  pub are_asked : (app : ℕ) → app < applications → IsSetOf (slice_index asked app) (length cores) (λ p. is_of app (holder_at cores p) && is_asked (holder_at cores p))
  pub are_free : IsSetOf free (length cores) (λ p. is_free (holder_at cores p))
  pub are_counted : (app socket : ℕ) → app < applications → socket < max_sockets → count_at counts app socket ≡ owned_on (socket_by_position machine) cores app socket
