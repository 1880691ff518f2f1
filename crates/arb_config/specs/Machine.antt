-- The machine that a configuration describes.
use Rattle.std.specs.Prelude.{◌≡◌, ℕ, ◌<◌, ◌≤◌, ◌≢◌, List, ◌++◌, length, replicate}
use Rattle.std.specs.List.{All, AllPairs, concat, enumerate_from, flat_map}
use Rattle.arb_config.specs.Limits.{core_numbers, max_grace, max_managed, max_orders, max_sockets}

-- a machine, as a configuration gives it
pub record Machine : Type 0 where
  -- the managed core numbers of each socket, in order
  pub sockets : List (List ℕ)
  -- the unmanaged core numbers of all sockets, in the order of the text
  pub unmanaged : List ℕ
  -- after how many microseconds a thread is moved from a core that is asked back
  pub grace : ℕ
  -- how many orders a run may enter
  pub orders : ℕ

-- the managed cores by position: the lists of all sockets joined in order
abbrev pub cores_of : Machine → List ℕ
cores_of m = concat m.sockets

-- the number of each socket, once for each of its cores; the first socket has the number n
abbrev pub socket_numbers_from : ℕ → List (List ℕ) → List ℕ
socket_numbers_from n sockets = flat_map (λ socket. replicate (length socket.1) socket.0) (enumerate_from n sockets)

-- the socket of each position; sockets are numbered from 0
abbrev pub socket_by_position : Machine → List ℕ
socket_by_position m = socket_numbers_from 0 m.sockets

-- what holds of every topology's machine
pub record IsMachine (m : Machine) : Type 0 where
  pub some_managed : 1 ≤ length (cores_of m)
  pub few_managed : length (cores_of m) ≤ max_managed
  pub some_socket : 1 ≤ length m.sockets
  pub few_sockets : length m.sockets ≤ max_sockets
  pub some_unmanaged : 1 ≤ length m.unmanaged
  pub few_unmanaged : length m.unmanaged < core_numbers
  -- core numbers are in their range, and no core is listed twice
  pub managed_low : All (λ core. core < core_numbers) (cores_of m)
  pub unmanaged_low : All (λ core. core < core_numbers) m.unmanaged
  pub different : AllPairs (λ core other. core ≢ other) (cores_of m ++ m.unmanaged)
  pub some_grace : 1 ≤ m.grace
  pub short_grace : m.grace ≤ max_grace
  pub some_orders : 1 ≤ m.orders
  pub few_orders : m.orders ≤ max_orders
  -- each position has a socket, one of the machine's
  pub socket_each : length (socket_by_position m) ≡ length (cores_of m)
  pub sockets_low : All (λ socket. socket < length m.sockets) (socket_by_position m)
