-- The machine of a tree to which no fault applies is as it is written there.
use Rattle.std.proofs.Common.{◌≡◌, ℕ, true, false, ◌&&◌, List, [], ◌∷◌, map, codes, Option, None, option_and_then, unwrap_or, refl, arith}
use Rattle.std.specs.List.{filter_map, flat_map, list_all, list_any}
use Rattle.std.specs.Option.{option_map_or}
use Rattle.std.proofs.lemmas.Bool.{and_parts, not-false, or_parts}
use Rattle.std.proofs.lemmas.Bool.Decides.{nat_tests}
use Rattle.std.proofs.lemmas.Grind.{common_steps}
use Rattle.std.proofs.lemmas.List.{map-append}
use Rattle.toml.specs.Data.{Data, Members, get_member}
use Rattle.arb_config.specs.Conditions.{cores_at, has_core_outside, has_socket_array, has_top_number_outside, is_array_of, is_integer, is_integer_or_missing, is_outside, is_outside_at, is_socket, sockets_in}
use Rattle.arb_config.specs.Config.{first_fault, machine_of}
use Rattle.arb_config.specs.Limits.{default_grace, default_orders, highest_core, max_grace, max_orders}
use Rattle.arb_config.specs.Tree.{elements_at, elements_in, members_in, number_within}
use Rattle.arb_config.specs.Written.{IsNumberAt, IsWritten, core_value}
use Rattle.arb_config.proofs.Machines.{HasNoFault-from_none}

-- a list of core numbers is read whole
list_written : (elements : List Data) → list_all is_integer elements ≡ true → list_any (is_outside 0 highest_core) elements ≡ false → map core_value (filter_map (number_within 0 highest_core) elements) ≡ elements
list_written [] ints inside = refl
list_written (d ∷ ds) ints inside = grind (arith, nat_tests, common_steps, list_written ds)

-- a socket has its two lists, of integers
socket_lists : (d : Data) → is_socket d ≡ true → (list_all is_integer (elements_at (codes "managed") (members_in d)) ≡ true) × (list_all is_integer (elements_at (codes "unmanaged") (members_in d)) ≡ true)
socket_lists d h = grind (arith, nat_tests, common_steps)

managed_written : (sockets : List Data) → list_all is_socket sockets ≡ true → list_any has_core_outside sockets ≡ false
    → map (map core_value) (map (cores_at (codes "managed")) sockets) ≡ map (λ socket. elements_at (codes "managed") (members_in socket)) sockets
managed_written [] good inside = refl
managed_written (d ∷ ds) good inside = grind (arith, nat_tests, common_steps, list_written, socket_lists, managed_written ds)

unmanaged_written : (sockets : List Data) → list_all is_socket sockets ≡ true → list_any has_core_outside sockets ≡ false
    → map core_value (flat_map (cores_at (codes "unmanaged")) sockets) ≡ flat_map (λ socket. elements_at (codes "unmanaged") (members_in socket)) sockets
unmanaged_written [] good inside = refl
unmanaged_written (d ∷ ds) good inside = grind (arith, nat_tests, common_steps, list_written, socket_lists, map-append, unmanaged_written ds)

array_sockets : (o : Option Data) → option_map_or (is_array_of is_socket) o false ≡ true → list_all is_socket (elements_in o) ≡ true
array_sockets o h = grind (arith, nat_tests, common_steps)

-- a number is the one at its key, or the default
number_written : (default low high : ℕ) (o : Option Data) → option_map_or is_integer o true ≡ true → option_map_or (is_outside low high) o false ≡ false → IsNumberAt default o (unwrap_or (option_and_then (number_within low high) o) default)
number_written default low high o int inside = grind (arith, nat_tests, common_steps)

pub IsWritten-machine_of : (tree : Members) → first_fault tree ≡ None → IsWritten tree (machine_of tree)
IsWritten-machine_of tree none =
    let types = HasNoFault-from_none tree none in
    let grace = is_integer_or_missing (codes "grace") tree in
    let orders = is_integer_or_missing (codes "orders") tree in
    let sockets = has_socket_array tree in
    let all = and_parts (grace && orders) sockets (not-false _ types.keys) in
    let tops = and_parts grace orders all.0 in
    let good = array_sockets (get_member (codes "socket") tree) all.1 in
    let inside = or_parts (has_top_number_outside tree) (list_any has_core_outside (sockets_in tree)) types.numbers in
    let top = or_parts (is_outside_at 1 max_grace (codes "grace") tree) (is_outside_at 1 max_orders (codes "orders") tree) inside.0 in
    record {
      sockets = managed_written (sockets_in tree) good inside.1;
      unmanaged = unmanaged_written (sockets_in tree) good inside.1;
      grace = number_written default_grace 1 max_grace (get_member (codes "grace") tree) tops.0 top.0;
      orders = number_written default_orders 1 max_orders (get_member (codes "orders") tree) tops.1 top.1;
    }
