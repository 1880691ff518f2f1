-- What a core number is, by the managed cores and the unmanaged ones.
use Rattle.std.proofs.Common.{◌≡◌, ℕ, ◌+◌, ◌<◌, ◌≤◌, ◌≢◌, Bool, false, eqb, List, [], ◌∷◌, ◌++◌, length, get_or, Some, None, Contains, position, sym, ◌∙◌, arith}
use Rattle.std.specs.List.{All, AllPairs}
use Rattle.std.proofs.Math.ListN.{set}
use Rattle.std.proofs.lemmas.Bool.Decides.{nat_tests}
use Rattle.std.proofs.lemmas.Grind.{common_steps}
use Rattle.std.proofs.lemmas.List.{get_or-append-add, get_or_default, get_or_push}
use Rattle.std.proofs.lemmas.List.Folds.{Any-from_list_any, list_any-from_Any, list_any-append, list_any_none, position_or_len_push}
use Rattle.std.proofs.lemmas.List.Quantifiers.{position-Some}
use Rattle.std.proofs.lemmas.List.Sums.{position_or_len_is, prefix_len-le-length}
use Rattle.arb_config.specs.declared.roles.Role.{Role}
use Rattle.arb_config.specs.declared.roles.Role.TheVariants.{Absent, Unmanaged, Managed}
use Rattle.arb_config.specs.Tables.{HasRoles, role_of}

-- the test that a number is this core
abbrev pub is_core : ℕ → ℕ → Bool
is_core core other = eqb other core

-- of numbers that are all different, two of the first list stand at one index
pub same_place : (xs ys : List ℕ) (i j d : ℕ) → AllPairs (λ a b. a ≢ b) (xs ++ ys) → i < j → j < length xs → get_or xs i d ≡ get_or xs j d → ⊥
same_place xs ys i j d different below within same = grind (arith, common_steps, different i j d)

-- and none of the first list stands in the second
no_common : (xs ys : List ℕ) (i j d : ℕ) → AllPairs (λ a b. a ≢ b) (xs ++ ys) → i < length xs → j < length ys → get_or xs i d ≡ get_or ys j d → ⊥
no_common xs ys i j d different within other same = grind (arith, common_steps, get_or-append-add, different i (length xs + j) d)

-- a core is found at its first index
position_at : (cores : List ℕ) (core index : ℕ) → index < length cores → get_or cores index 0 ≡ core → ((k : ℕ) → k < index → get_or cores k 0 ≢ core) → position (is_core core) cores ≡ Some index
position_at cores core index within here before = grind (arith, nat_tests, common_steps, position_or_len_is (is_core core) cores index 0)

-- a core that stands at no index is not found
position_none : (cores : List ℕ) (core : ℕ) → All (λ other. other ≢ core) cores → position (is_core core) cores ≡ None
position_none cores core none = grind (arith, nat_tests, common_steps, position_or_len_is (is_core core) cores (length cores) 0)

-- a managed core has its index, and an index its core
pub role_of-index : (cores unmanaged : List ℕ) (core index : ℕ) → role_of cores unmanaged core ≡ Managed index → (index < length cores) × (get_or cores index 0 ≡ core)
role_of-index cores unmanaged core index h = grind (arith, nat_tests, common_steps, position-Some (is_core core) cores index 0)

pub role_of-managed : (cores unmanaged : List ℕ) (core index : ℕ) → AllPairs (λ a b. a ≢ b) (cores ++ unmanaged) → index < length cores → get_or cores index 0 ≡ core → role_of cores unmanaged core ≡ Managed index
role_of-managed cores unmanaged core index different within here =
    rw (position_at cores core index within here (λ k below same. same_place cores unmanaged k index 0 different below within (same ∙ sym here)))

-- an unmanaged core is one of the list, and one of the list is unmanaged
pub role_of-listed : (cores unmanaged : List ℕ) (core : ℕ) → role_of cores unmanaged core ≡ Unmanaged → Contains unmanaged core
role_of-listed cores unmanaged core h = grind (arith, nat_tests, common_steps, Any-from_list_any (is_core core) unmanaged, get_or_default)

pub role_of-unmanaged : (cores unmanaged : List ℕ) (core : ℕ) → AllPairs (λ a b. a ≢ b) (cores ++ unmanaged) → Contains unmanaged core → role_of cores unmanaged core ≡ Unmanaged
role_of-unmanaged cores unmanaged core different listed =
    let apart : All (λ other. other ≢ core) cores = λ k d within same. grind (arith, common_steps, no_common cores unmanaged k listed.0 core different) in
    grind (arith, nat_tests, position_none cores core apart, list_any-from_Any (is_core core) unmanaged)

-- a number that is not low is no core of the machine
pub role_of-absent : (cores unmanaged : List ℕ) (core n : ℕ) → All (λ c. c < n) cores → All (λ c. c < n) unmanaged → n ≤ core → role_of cores unmanaged core ≡ Absent
role_of-absent cores unmanaged core n low others above = grind (arith, nat_tests, common_steps, position_none cores core, list_any_none (is_core core) unmanaged)

-- ---- one more core in the table of roles

-- a number that fails the test, at the end, changes no position
position_push : (p : ℕ → Bool) (xs : List ℕ) (y : ℕ) → p y ≡ false → position p (xs ++ y ∷ []) ≡ position p xs
position_push p xs y fails = grind (arith, nat_tests, common_steps, position_or_len_push, prefix_len-le-length)

-- one more unmanaged core
pub HasRoles-listed : (roles : List Role) (xs : List ℕ) (core : ℕ) → core < length roles → HasRoles [] xs roles → HasRoles [] (xs ++ core ∷ []) (set roles core Unmanaged)
HasRoles-listed roles xs core within had other d low = grind (arith, nat_tests, common_steps, list_any-append, had other d low)

-- one more managed core, at the next position
pub HasRoles-placed : (roles : List Role) (cores unmanaged : List ℕ) (core index : ℕ) → core < length roles → length cores ≡ index → All (λ c. c ≢ core) cores → HasRoles cores unmanaged roles → HasRoles (cores ++ core ∷ []) unmanaged (set roles core (Managed index))
HasRoles-placed roles cores unmanaged core index within is none had other d low =
    grind (arith, nat_tests, common_steps, position_at (cores ++ core ∷ []) core index, get_or_push cores core, position_push (is_core other) cores core, had other d low)
