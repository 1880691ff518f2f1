-- The machine of a tree to which no fault applies is one of the arbiter's.
use Rattle.std.proofs.Common.{◌≡◌, ℕ, ◌+◌, ◌<◌, ◌≤◌, Bool, true, false, cond, eqb, List, [], ◌∷◌, ◌++◌, length, map, replicate, codes, Option, Some, None, IfSome, refl, sym, ap, ◌∙◌, subst, arith, rules, length-append, ◌-◌, append_assoc, take}
use Rattle.std.specs.List.{All, concat, filter_map, flat_map, list_any}
use Rattle.std.specs.Option.{option_map_or}
use Rattle.std.proofs.lemmas.Bool.Decides.{Decides-eqb, nat_tests}
use Rattle.std.proofs.lemmas.Grind.{common_steps}
use Rattle.std.proofs.lemmas.List.{append-nil, length-map, length-replicate, take_all}
use Rattle.std.proofs.lemmas.List.Elements.{All-append, All-cons, All-nil, All-replicate}
use Rattle.std.proofs.lemmas.List.Concat.{concat_is}
use Rattle.std.proofs.lemmas.List.Folds.{Any-from_list_any, flat_map-map}
use Rattle.std.proofs.lemmas.Map.Made.{IsDistinct-from_AllPairs}
use Rattle.std.proofs.lemmas.Map.Steps.{length-le_from_distinct_below}
use Rattle.toml.specs.Data.{Data, Members}
use Rattle.arb_config.specs.Limits.{core_numbers, default_grace, default_orders, highest_core, max_grace, max_managed, max_orders, max_sockets}
use Rattle.arb_config.specs.declared.fault.ConfigFault.TheVariants.{NotToml, UnknownKey, BadKey, OutOfRange, SocketCount, CoreTwice, ManagedCount, NoUnmanaged}
use Rattle.arb_config.specs.Conditions.{cores_at, cores_under, first_repeated, has_bad_key, has_no_unmanaged, has_number_outside, has_unknown_key, has_wrong_managed_count, has_wrong_socket_count, listed_cores, sockets_in}
use Rattle.arb_config.specs.Config.{first_fault, machine_of, number_or}
use Rattle.arb_config.specs.declared.roles.Role.{Role}
use Rattle.arb_config.specs.Tables.{HasRoles, FitsMachine}
use Rattle.arb_config.specs.Machine.{IsMachine, Machine, cores_of, socket_numbers_from}
use Rattle.arb_config.specs.Tree.{elements_at, members_in, number_within}
use Rattle.arb_config.proofs.Repeats.{IsOnce, IsOnce-from_none, IsOnce-regrouped, different_from_once}

-- ---- what it says that no fault applies

-- the conditions of a list of tests of which none holds
no_fault : (a b c d : Bool) (o : Option ℕ) (e f : Bool)
    → cond a (Some UnknownKey) (cond b (Some BadKey) (cond c (Some OutOfRange) (cond d (Some SocketCount) (option_map_or (λ core. Some (CoreTwice core)) o (cond e (Some ManagedCount) (cond f (Some NoUnmanaged) None)))))) ≡ None
    → (b ≡ false) × (c ≡ false) × (d ≡ false) × (o ≡ None) × (e ≡ false) × (f ≡ false)
no_fault a b c d o e f h = grind (arith, nat_tests, common_steps)

-- each value has its type, each number its range, and no condition on the counts and the cores holds
pub record HasNoFault (tree : Members) : Type 0 where
  pub keys : has_bad_key tree ≡ false
  pub numbers : has_number_outside tree ≡ false
  pub sockets : has_wrong_socket_count tree ≡ false
  pub once : first_repeated (listed_cores tree) ≡ None
  pub managed : has_wrong_managed_count tree ≡ false
  pub unmanaged : has_no_unmanaged tree ≡ false

pub HasNoFault-from_none : (tree : Members) → first_fault tree ≡ None → HasNoFault tree
HasNoFault-from_none tree none =
    search (rules, no_fault (has_unknown_key tree) (has_bad_key tree) (has_number_outside tree) (has_wrong_socket_count tree) (first_repeated (listed_cores tree)) (has_wrong_managed_count tree) (has_no_unmanaged tree) none)

-- no tree is refused as no TOML
pub first_fault-is_tree : (tree : Members) → first_fault tree ≡ Some NotToml → ⊥
first_fault-is_tree tree h = grind (arith, nat_tests, common_steps)

-- ---- numbers in their ranges

number_within-range : (low high : ℕ) (d : Data) → IfSome (number_within low high d) (λ number. (low ≤ number) × (number ≤ high))
number_within-range low high d = grind (arith, nat_tests, common_steps)

number_or-range : (default low high : ℕ) (key : List ℕ) (tree : Members) → low ≤ default → default ≤ high → (low ≤ number_or default low high key tree) × (number_or default low high key tree ≤ high)
number_or-range default low high key tree above below = grind (arith, nat_tests, common_steps)

-- ---- core numbers are low

cores_low : (elements : List Data) → All (λ n. n < core_numbers) (filter_map (number_within 0 highest_core) elements)
cores_low [] = All-nil (λ n. n < core_numbers)
cores_low (d ∷ ds) = grind (arith, nat_tests, common_steps, All-cons (λ n. n < core_numbers), number_within-range 0 highest_core d, cores_low ds)

all_low : {X : Type 0} (f : X → List ℕ) → ((x : X) → All (λ n. n < core_numbers) (f x)) → (xs : List X) → All (λ n. n < core_numbers) (flat_map f xs)
all_low f each [] = All-nil (λ n. n < core_numbers)
all_low f each (x ∷ xs) = All-append (λ n. n < core_numbers) (f x) (flat_map f xs) (each x) (all_low f each xs)

pub cores_under-low : (key : List ℕ) (tree : Members) → All (λ n. n < core_numbers) (cores_under key tree)
cores_under-low key tree = all_low (cores_at key) (λ socket. cores_low (elements_at key (members_in socket))) (sockets_in tree)

low_listed : (cores : List ℕ) (core : ℕ) → All (λ n. n < core_numbers) cores → list_any (eqb core) cores ≡ true → core < core_numbers
low_listed cores core low any = grind (arith, nat_tests, common_steps, Any-from_list_any)

-- ---- the sockets of the positions

pub cores_of-machine_of : (tree : Members) → cores_of (machine_of tree) ≡ cores_under (codes "managed") tree
cores_of-machine_of tree = rw (concat_is, flat_map-map)

length-socket_numbers : (n : ℕ) (lists : List (List ℕ)) → length (socket_numbers_from n lists) ≡ length (concat lists)
length-socket_numbers n [] = refl
length-socket_numbers n (x ∷ xs) = grind (arith, common_steps, length-append, length-replicate, length-socket_numbers (n + 1) xs)

socket_numbers-low : (n end : ℕ) (lists : List (List ℕ)) → n + length lists ≤ end → All (λ socket. socket < end) (socket_numbers_from n lists)
socket_numbers-low n end [] fits = All-nil (λ socket. socket < end)
socket_numbers-low n end (x ∷ xs) fits =
    grind (arith, common_steps, All-append (λ socket. socket < end), All-replicate (λ socket. socket < end), socket_numbers-low (n + 1) end xs)

-- one more socket
socket_numbers-push : (n : ℕ) (lists : List (List ℕ)) (x : List ℕ) → socket_numbers_from n (lists ++ x ∷ []) ≡ socket_numbers_from n lists ++ replicate (length x) (n + length lists)
socket_numbers-push n [] x = grind (arith, common_steps, append-nil)
socket_numbers-push n (y ∷ ys) x = grind (arith, common_steps, append_assoc, socket_numbers-push (n + 1) ys x)

-- one more list, as `resize` leaves the numbers
pub socket_numbers-resized : (numbers : List ℕ) (lists : List (List ℕ)) (x : List ℕ) (len size number : ℕ) → numbers ≡ socket_numbers_from 0 lists → length numbers ≡ len → size ≡ len + length x → number ≡ length lists
    → take size numbers ++ replicate (size - len) number ≡ socket_numbers_from 0 (lists ++ x ∷ [])
socket_numbers-resized numbers lists x len size number are long is_size is_number = grind (arith, common_steps, socket_numbers-push 0 lists x, take_all)

-- ---- the machine

pub IsMachine-machine_of : (tree : Members) → first_fault tree ≡ None → IsMachine (machine_of tree)
IsMachine-machine_of tree none =
    let m = machine_of tree in
    let good = HasNoFault-from_none tree none in
    let cores = cores_under (codes "managed") tree in
    let others = cores_under (codes "unmanaged") tree in
    let is : cores_of m ≡ cores = cores_of-machine_of tree in
    let once : IsOnce (cores ++ others) = IsOnce-regrouped (cores_at (codes "managed")) (cores_at (codes "unmanaged")) (sockets_in tree) (IsOnce-from_none (listed_cores tree) good.once) in
    let different = different_from_once (cores ++ others) once in
    let low = All-append (λ n. n < core_numbers) cores others (cores_under-low (codes "managed") tree) (cores_under-low (codes "unmanaged") tree) in
    let all_few : length (cores ++ others) ≤ core_numbers = length-le_from_distinct_below (cores ++ others) core_numbers (IsDistinct-from_AllPairs Decides-eqb (cores ++ others) different) (λ q any. low_listed (cores ++ others) q low any) in
    let grace = number_or-range default_grace 1 max_grace (codes "grace") tree (omega arith) (omega arith) in
    let orders = number_or-range default_orders 1 max_orders (codes "orders") tree (omega arith) (omega arith) in
    let managed : (1 ≤ length cores) × (length cores ≤ max_managed) = grind (arith, nat_tests, good.managed) in
    let sockets : (1 ≤ length (sockets_in tree)) × (length (sockets_in tree) ≤ max_sockets) = grind (arith, nat_tests, good.sockets) in
    record {
      some_managed = rw is managed.0;
      few_managed = rw is managed.1;
      some_socket = omega (arith, length-map (sockets_in tree) (cores_at (codes "managed")));
      few_sockets = omega (arith, length-map (sockets_in tree) (cores_at (codes "managed")));
      some_unmanaged = grind (arith, nat_tests, good.unmanaged);
      few_unmanaged = omega (arith, length-append cores others);
      managed_low = rw is (cores_under-low (codes "managed") tree);
      unmanaged_low = cores_under-low (codes "unmanaged") tree;
      different = rw is different;
      some_grace = grace.0;
      short_grace = grace.1;
      some_orders = orders.0;
      few_orders = orders.1;
      socket_each = length-socket_numbers 0 m.sockets;
      sockets_low = socket_numbers-low 0 (length m.sockets) m.sockets (omega arith);
    }

-- the lists of the sockets are few
pub few_lists : {X : Type 0} (items : X → List ℕ) (lists : List X) (tree : Members) → first_fault tree ≡ None → map items lists ≡ map (cores_at (codes "managed")) (sockets_in tree) → length lists ≤ max_sockets
few_lists items lists tree none are = omega (arith, (IsMachine-machine_of tree none).few_sockets, ap length are, length-map lists items, length-map (sockets_in tree) (cores_at (codes "managed")))

-- ---- the topology

pub FitsMachine-from_tree : (tree : Members) (sockets : List (List ℕ)) (unmanaged : List ℕ) (grace orders : ℕ) (cores socket_numbers : List ℕ) (roles : List Role) → first_fault tree ≡ None
    → sockets ≡ map (cores_at (codes "managed")) (sockets_in tree) → unmanaged ≡ cores_under (codes "unmanaged") tree
    → grace ≡ number_or default_grace 1 max_grace (codes "grace") tree → orders ≡ number_or default_orders 1 max_orders (codes "orders") tree
    → cores ≡ cores_under (codes "managed") tree → socket_numbers ≡ socket_numbers_from 0 sockets → HasRoles cores unmanaged roles
    → FitsMachine (record { sockets = sockets; unmanaged = unmanaged; grace = grace; orders = orders }) cores socket_numbers roles
FitsMachine-from_tree tree sockets unmanaged grace orders cores socket_numbers roles none are_sockets are_unmanaged is_grace is_orders are_cores are_socket_numbers has_roles =
    let m : Machine = record { sockets = sockets; unmanaged = unmanaged; grace = grace; orders = orders } in
    let same : m ≡ machine_of tree = rw (are_sockets, are_unmanaged, is_grace, is_orders) in
    let facts : IsMachine m = subst IsMachine (sym same) (IsMachine-machine_of tree none) in
    let joined : cores ≡ cores_of m = are_cores ∙ (sym (cores_of-machine_of tree) ∙ ap concat (sym are_sockets)) in
    record { machine = facts; core_of_each = joined; socket_of_each = are_socket_numbers; role_of_each = has_roles }
