-- What a configuration gives: the machine, or the first fault that applies.
use Rattle.std.specs.Prelude.{ℕ, List, map, codes, Option, Some, None, option_and_then, unwrap_or, Result, Ok, Err, if◌then◌else◌}
use Rattle.std.specs.Option.{option_map_or}
use Rattle.toml.specs.Data.{Members, get_member}
use Rattle.arb_config.specs.declared.fault.ConfigFault.{ConfigFault}
use Rattle.arb_config.specs.declared.fault.ConfigFault.TheVariants.{NotToml, UnknownKey, BadKey, OutOfRange, SocketCount, CoreTwice, ManagedCount, NoUnmanaged}
use Rattle.arb_config.specs.Conditions.{cores_at, cores_under, first_repeated, has_bad_key, has_no_unmanaged, has_number_outside, has_unknown_key, has_wrong_managed_count, has_wrong_socket_count, listed_cores, sockets_in}
use Rattle.arb_config.specs.Limits.{default_grace, default_orders, max_grace, max_orders}
use Rattle.arb_config.specs.Machine.{Machine}
use Rattle.arb_config.specs.Tree.{number_within}

-- the first fault of those that look at counts and at the cores themselves
abbrev pub fault_of_cores : Members → Option ConfigFault
fault_of_cores tree =
    if has_wrong_socket_count tree then Some SocketCount
    else option_map_or (λ core. Some (CoreTwice core)) (first_repeated (listed_cores tree))
    (if has_wrong_managed_count tree then Some ManagedCount
    else if has_no_unmanaged tree then Some NoUnmanaged
    else None)

-- the first fault that applies to the tree
abbrev pub first_fault : Members → Option ConfigFault
first_fault tree =
    if has_unknown_key tree then Some UnknownKey
    else if has_bad_key tree then Some BadKey
    else if has_number_outside tree then Some OutOfRange
    else fault_of_cores tree

-- the number at a key of the top table, or the default where the key has none in the range
abbrev pub number_or : ℕ → ℕ → ℕ → List ℕ → Members → ℕ
number_or default low high key tree = unwrap_or (option_and_then (number_within low high) (get_member key tree)) default

-- the machine of a tree to which no fault applies
abbrev pub machine_of : Members → Machine
machine_of tree = record {
  sockets = map (cores_at (codes "managed")) (sockets_in tree);
  unmanaged = cores_under (codes "unmanaged") tree;
  grace = number_or default_grace 1 max_grace (codes "grace") tree;
  orders = number_or default_orders 1 max_orders (codes "orders") tree;
}

-- what the document gives; `None` is a text that is not TOML
abbrev pub outcome_of : Option Members → Result Machine ConfigFault
outcome_of None = Err NotToml
outcome_of (Some tree) = option_map_or Err (first_fault tree) (Ok (machine_of tree))
