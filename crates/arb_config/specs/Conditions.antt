-- The seven conditions under which a configuration's tree is refused, in the order in which they are tried. Each speaks of the whole document.
use Rattle.std.specs.Prelude.{ℕ, Bool, true, false, not, ◌&&◌, ◌||◌, ◌==◌, nat_lt, List, ◌++◌, length, take, slice_index, codes, Option, option_map, is_some}
use Rattle.std.specs.List.{filter_map, find, flat_map, list_all, list_any, range_with_len}
use Rattle.std.specs.Option.{option_map_or}
use Rattle.std.specs.Str.{bytes_eq}
use Rattle.toml.specs.Data.{Data, integer, array, table, Members, as_integer, get_member}
use Rattle.arb_config.specs.Limits.{highest_core, max_grace, max_managed, max_orders, max_sockets}
use Rattle.arb_config.specs.Tree.{elements_at, elements_of, is_within, keys_in, members_in, number_within}

-- the elements of the `socket` array
abbrev pub sockets_in : Members → List Data
sockets_in tree = elements_at (codes "socket") tree

-- ---- an unknown key: the top table, or a table in the `socket` array, has another key than those of the format

-- a key of the top table
abbrev pub is_top_key : List ℕ → Bool
is_top_key key = (bytes_eq key (codes "grace") || bytes_eq key (codes "orders")) || bytes_eq key (codes "socket")

-- a key of a socket
abbrev pub is_socket_key : List ℕ → Bool
is_socket_key key = bytes_eq key (codes "managed") || bytes_eq key (codes "unmanaged")

-- the top table has a key that the format does not have
abbrev pub has_unknown_top_key : Members → Bool
has_unknown_top_key tree = list_any (λ key. not (is_top_key key)) (keys_in tree)

-- the value is a table that has a key that the format does not have
abbrev pub has_unknown_socket_key : Data → Bool
has_unknown_socket_key socket = list_any (λ key. not (is_socket_key key)) (keys_in (members_in socket))

-- the document has an unknown key
abbrev pub has_unknown_key : Members → Bool
has_unknown_key tree = has_unknown_top_key tree || list_any has_unknown_socket_key (sockets_in tree)

-- ---- a bad key: a needed key is missing, or a value has another type than that of the format

-- a value is an integer
abbrev pub is_integer : Data → Bool
is_integer value = is_some (as_integer value)

-- an array whose elements all pass the test
abbrev pub is_array_of : (Data → Bool) → Data → Bool
is_array_of test (array items) = list_all test (elements_of items)
is_array_of test _ = false

-- the key has a list of integers
abbrev pub has_core_array : List ℕ → Members → Bool
has_core_array key members = option_map_or (is_array_of is_integer) (get_member key members) false

-- a table with both lists of cores
abbrev pub is_socket : Data → Bool
is_socket (table members) = has_core_array (codes "managed") members && has_core_array (codes "unmanaged") members
is_socket _ = false

-- `socket` is there, an array of tables with both lists
abbrev pub has_socket_array : Members → Bool
has_socket_array tree = option_map_or (is_array_of is_socket) (get_member (codes "socket") tree) false

-- the key has an integer, or is missing
abbrev pub is_integer_or_missing : List ℕ → Members → Bool
is_integer_or_missing key tree = option_map_or is_integer (get_member key tree) true

-- `grace` and `orders` may be missing, `socket` may not
abbrev pub has_bad_key : Members → Bool
has_bad_key tree =
    not ((is_integer_or_missing (codes "grace") tree && is_integer_or_missing (codes "orders") tree) && has_socket_array tree)

-- ---- a number out of range: an integer is outside the range of its key

-- a value is an integer outside a range
abbrev pub is_outside : ℕ → ℕ → Data → Bool
is_outside low high (integer z) = not (is_within low high z)
is_outside low high _ = false

-- the key of the top table has an integer outside the range
abbrev pub is_outside_at : ℕ → ℕ → List ℕ → Members → Bool
is_outside_at low high key tree = option_map_or (is_outside low high) (get_member key tree) false

-- the grace or the order limit is outside its range
abbrev pub has_top_number_outside : Members → Bool
has_top_number_outside tree = is_outside_at 1 max_grace (codes "grace") tree || is_outside_at 1 max_orders (codes "orders") tree

-- the list of cores at a key of a socket has an integer outside the range of core numbers
abbrev pub has_core_outside_at : List ℕ → Data → Bool
has_core_outside_at key socket = list_any (is_outside 0 highest_core) (elements_at key (members_in socket))

-- a socket lists a number that is no core number
abbrev pub has_core_outside : Data → Bool
has_core_outside socket = has_core_outside_at (codes "managed") socket || has_core_outside_at (codes "unmanaged") socket

-- the document has a number out of range
abbrev pub has_number_outside : Members → Bool
has_number_outside tree = has_top_number_outside tree || list_any has_core_outside (sockets_in tree)

-- ---- a wrong number of sockets

-- there are no sockets, or too many
abbrev pub has_wrong_socket_count : Members → Bool
has_wrong_socket_count tree = nat_lt (length (sockets_in tree)) 1 || nat_lt max_sockets (length (sockets_in tree))

-- ---- a core that is listed twice

-- the core numbers in the list at a key of a socket: all its elements, where the conditions above don't hold
abbrev pub cores_at : List ℕ → Data → List ℕ
cores_at key socket = filter_map (number_within 0 highest_core) (elements_at key (members_in socket))

-- all core numbers of the document: sockets in order, in each the managed list and then the unmanaged one
abbrev pub listed_cores : Members → List ℕ
listed_cores tree = flat_map (λ socket. cores_at (codes "managed") socket ++ cores_at (codes "unmanaged") socket) (sockets_in tree)

-- the core at the index equals one at an earlier index
abbrev pub is_repeated_at : List ℕ → ℕ → Bool
is_repeated_at cores index = list_any (λ earlier. earlier == slice_index cores index) (take index cores)

-- the first core that equals an earlier one
abbrev pub first_repeated : List ℕ → Option ℕ
first_repeated cores = option_map (slice_index cores) (find (is_repeated_at cores) (range_with_len 0 (length cores)))

-- ---- a wrong number of managed cores, or no unmanaged core

-- the core numbers at a key of all sockets, joined in order
abbrev pub cores_under : List ℕ → Members → List ℕ
cores_under key tree = flat_map (cores_at key) (sockets_in tree)

-- all sockets together have no managed cores, or too many
abbrev pub has_wrong_managed_count : Members → Bool
has_wrong_managed_count tree =
    nat_lt (length (cores_under (codes "managed") tree)) 1 || nat_lt max_managed (length (cores_under (codes "managed") tree))

-- no socket lists an unmanaged core
abbrev pub has_no_unmanaged : Members → Bool
has_no_unmanaged tree = length (cores_under (codes "unmanaged") tree) == 0
