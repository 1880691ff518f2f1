-- The unmanaged cores that a text lists, socket by socket.
use Rattle.std.proofs.Common.{◌≡◌, ℕ, ◌+◌, ◌≤◌, List, [], ◌∷◌, ◌++◌, length, map, codes, Option, Some, None, Ok, Err, refl, ap, ◌∙◌, arith}
use Rattle.std.specs.List.{enumerate_from, flat_map}
use Rattle.std.specs.Option.{option_map_or}
use Rattle.std.proofs.lemmas.List.{append-nil, length-map}
use Rattle.std.proofs.lemmas.List.Concat.{flat_map-append}
use Rattle.toml.specs.Data.{Data, Members}
use Rattle.arb_config.specs.declared.fault.ConfigFault.{ConfigFault}
use Rattle.arb_config.specs.Conditions.{cores_at, cores_under, sockets_in}
use Rattle.arb_config.specs.Config.{first_fault, machine_of, outcome_of}
use Rattle.arb_config.specs.Limits.{core_numbers, max_sockets}
use Rattle.arb_config.specs.Machine.{IsMachine, Machine}
use Rattle.arb_c.specs.declared.wire.WireCore.{WireCore}
use Rattle.arb_c.specs.Holding.{core_on, unmanaged_cores, unmanaged_on}

-- one more socket is numbered by how many came before
enumerate-push : {X : Type 0} (n : ℕ) (xs : List X) (x : X) → enumerate_from n (xs ++ x ∷ []) ≡ enumerate_from n xs ++ (n + length xs, x) ∷ []
enumerate-push n [] x = let e : n ≡ n + 0 = omega arith in ap (λ k. (k, x) ∷ []) e
enumerate-push n (y ∷ ys) x =
    let e : n + 1 + length ys ≡ n + length (y ∷ ys) = omega arith in
    ap (λ rest. (n, y) ∷ rest) (enumerate-push (n + 1) ys x ∙ ap (λ k. enumerate_from (n + 1) ys ++ (k, x) ∷ []) e)

-- the cores of one more socket
pub unmanaged-push : (sockets : List Data) (socket : Data) (number : ℕ) → number ≡ length sockets
    → flat_map unmanaged_on (enumerate_from 0 (sockets ++ socket ∷ []))
    ≡ flat_map unmanaged_on (enumerate_from 0 sockets) ++ map (core_on number) (cores_at (codes "unmanaged") socket)
unmanaged-push sockets socket number is =
    let e : 0 + length sockets ≡ number = omega (arith, is) in
    rw (enumerate-push 0 sockets socket, flat_map-append, e, append-nil) refl

-- their numbers are those of the list
numbers_on : (socket : ℕ) (cores : List ℕ) → map (λ core. core.number) (map (core_on socket) cores) ≡ cores
numbers_on socket [] = refl
numbers_on socket (c ∷ cs) = ap (λ rest. c ∷ rest) (numbers_on socket cs)

numbers-append : (xs ys : List WireCore) → map (λ core. core.number) (xs ++ ys) ≡ map (λ core. core.number) xs ++ map (λ core. core.number) ys
numbers-append [] ys = refl
numbers-append (x ∷ xs) ys = ap (λ rest. x.number ∷ rest) (numbers-append xs ys)

numbers_from : (n : ℕ) (sockets : List Data) → map (λ core. core.number) (flat_map unmanaged_on (enumerate_from n sockets)) ≡ flat_map (cores_at (codes "unmanaged")) sockets
numbers_from n [] = refl
numbers_from n (s ∷ ss) =
    numbers-append (map (core_on n) (cores_at (codes "unmanaged") s)) (flat_map unmanaged_on (enumerate_from (n + 1) ss))
    ∙ ap (λ first. first ++ map (λ core. core.number) (flat_map unmanaged_on (enumerate_from (n + 1) ss))) (numbers_on n (cores_at (codes "unmanaged") s))
    ∙ ap (λ rest. cores_at (codes "unmanaged") s ++ rest) (numbers_from (n + 1) ss)

-- the numbers of a document's unmanaged cores are its unmanaged lists joined in order
pub unmanaged-numbers : (tree : Members) → map (λ core. core.number) (unmanaged_cores tree) ≡ cores_under (codes "unmanaged") tree
unmanaged-numbers tree = numbers_from 0 (sockets_in tree)

-- the machine of a text that describes one
pub is_machine_of : (tree : Members) (m : Machine) → outcome_of (Some tree) ≡ Ok m → machine_of tree ≡ m
is_machine_of tree m is = found (first_fault tree) is
  where
    found : (fault : Option ConfigFault) → option_map_or Err fault (Ok (machine_of tree)) ≡ Ok m → machine_of tree ≡ m
    found None same = cc
    found (Some fault) wrong = absurd (cc wrong)

-- its sockets are few
pub few_sockets : (tree : Members) (m : Machine) → outcome_of (Some tree) ≡ Ok m → IsMachine m → length (sockets_in tree) ≤ max_sockets
few_sockets tree m is limits =
    omega (arith, limits.few_sockets, ap (λ x. length x.sockets) (is_machine_of tree m is), length-map (sockets_in tree) (cores_at (codes "managed")))

-- and so are its unmanaged cores
pub few_unmanaged : (tree : Members) (m : Machine) (cores : List WireCore) → outcome_of (Some tree) ≡ Ok m → IsMachine m
    → map (λ core. core.number) cores ≡ cores_under (codes "unmanaged") tree → length cores ≤ core_numbers
few_unmanaged tree m cores is limits numbers =
    omega (arith, limits.few_unmanaged, ap (λ x. length x.unmanaged) (is_machine_of tree m is), ap length numbers, length-map cores (λ core. core.number))
