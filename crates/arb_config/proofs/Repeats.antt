-- The first core that equals an earlier one, and lists in which there is none.
use Rattle.std.proofs.Common.{◌≡◌, ℕ, zero, suc, ◌+◌, ◌<◌, ◌≤◌, ◌≢◌, Bool, true, false, cond, List, [], ◌∷◌, ◌++◌, length, take, get_or, slice_index, Some, None, count_by, refl, arith, inl, inr, add-one}
use Rattle.std.specs.List.{AllPairs, flat_map, list_any, position_or_len, range_with_len}
use Rattle.std.proofs.lemmas.Bool.{cases_Bool, eqb-true}
use Rattle.std.proofs.lemmas.Bool.Decides.{nat_tests}
use Rattle.std.proofs.lemmas.Grind.{common_steps}
use Rattle.std.proofs.lemmas.List.{length-take-le, take_all}
use Rattle.std.proofs.lemmas.List.Folds.{find_at}
use Rattle.std.proofs.lemmas.List.FromFn.{get_or-range_with_len, length-range_with_len}
use Rattle.std.proofs.lemmas.List.Sums.{count_by_more_no, count_by_more_yes, fails_before_first, get_or-le-sum_by, position_or_len_is, sum_by-append, sum_by-cons, sum_by-take-le}
use Rattle.std.proofs.lemmas.Option.{slice_get-get_or, slice_get_past}
use Rattle.arb_config.specs.Conditions.{first_repeated, is_repeated_at}
use Rattle.arb_config.proofs.RoleLaws.{is_core}

-- the indexes of a list
abbrev indexes : List ℕ → List ℕ
indexes cores = range_with_len 0 (length cores)

place_is : (cores : List ℕ) (k : ℕ) → k < length cores → get_or (indexes cores) k 0 ≡ k
place_is cores k within = grind (arith, common_steps, get_or-range_with_len)

-- where the core at an index is the first that repeats, it is the answer
pub first_repeated-some : (cores : List ℕ) (index : ℕ) → index < length cores → ((k : ℕ) → k < index → is_repeated_at cores k ≡ false) → is_repeated_at cores index ≡ true → first_repeated cores ≡ Some (slice_index cores index)
first_repeated-some cores index within before here =
    let test = is_repeated_at cores in
    grind (arith, nat_tests, common_steps, find_at test (indexes cores), position_or_len_is test (indexes cores) index 0, slice_get-get_or (indexes cores), place_is cores, length-range_with_len)

-- where no index repeats, there is none
pub first_repeated-none : (cores : List ℕ) → ((k : ℕ) → k < length cores → is_repeated_at cores k ≡ false) → first_repeated cores ≡ None
first_repeated-none cores none =
    let test = is_repeated_at cores in
    let size = length cores in
    let found = position_or_len_is test (indexes cores) size 0 (omega (arith, length-range_with_len)) (λ k h. rw (place_is cores k h) (none k h)) (λ h. absurd (omega (arith, length-range_with_len))) in
    rw (find_at test (indexes cores), found, slice_get_past (indexes cores) size (omega (arith, length-range_with_len)))

-- and the other way round
repeats_nowhere : (cores : List ℕ) (k : ℕ) → first_repeated cores ≡ None → k < length cores → is_repeated_at cores k ≡ false
repeats_nowhere cores k none within =
    let test = is_repeated_at cores in
    let first = position_or_len test (indexes cores) in
    grind (arith, nat_tests, common_steps, find_at test (indexes cores), slice_get-get_or (indexes cores) first 0, fails_before_first test (indexes cores) k 0, place_is cores k, length-range_with_len)

-- a list has no element that passes a test where none is found
count_none : (test : ℕ → Bool) (xs : List ℕ) → list_any test xs ≡ false → count_by test xs ≡ 0
count_none test [] none = refl
count_none test (x ∷ xs) none = grind (arith, nat_tests, common_steps, sum_by-cons, count_none test xs)

-- each core stands in the list once at most
abbrev pub IsOnce : List ℕ → Type 0
IsOnce cores = (core : ℕ) → count_by (is_core core) cores ≤ 1

once_below : (cores : List ℕ) (core n : ℕ) → first_repeated cores ≡ None → n ≤ length cores → count_by (is_core core) (take n cores) ≤ 1
once_below cores core zero none within = omega arith
once_below cores core (suc n) none within =
    rw (← add-one n)
    (elim (cases_Bool (is_core core (get_or cores n 0))) [
      | inl same ↦
          let nowhere = rw (eqb-true _ _ same) at (repeats_nowhere cores n none (omega arith)) in
          omega (arith, count_none (is_core core) (take n cores) nowhere, count_by_more_yes (is_core core) cores n 0 (omega arith) same)
      | inr other ↦ omega (arith, once_below cores core n none (omega arith), count_by_more_no (is_core core) cores n 0 (omega arith) other)
    ])

pub IsOnce-from_none : (cores : List ℕ) → first_repeated cores ≡ None → IsOnce cores
IsOnce-from_none cores none core = rw (take_all (length cores) cores (omega arith)) at (once_below cores core (length cores) none (omega arith))

count_regrouped : {X : Type 0} (f g : X → List ℕ) (xs : List X) (core : ℕ) → count_by (is_core core) (flat_map (λ x. f x ++ g x) xs) ≡ count_by (is_core core) (flat_map f xs ++ flat_map g xs)
count_regrouped f g [] core = refl
count_regrouped f g (x ∷ xs) core = simp (sum_by-append, count_regrouped f g xs core) (omega arith)

-- the order in which two lists of each element are joined doesn't matter
pub IsOnce-regrouped : {X : Type 0} (f g : X → List ℕ) (xs : List X) → IsOnce (flat_map (λ x. f x ++ g x) xs) → IsOnce (flat_map f xs ++ flat_map g xs)
IsOnce-regrouped f g xs once core = rw (← count_regrouped f g xs core) (once core)

-- numbers that stand once each are all different
pub different_from_once : (cores : List ℕ) → IsOnce cores → AllPairs (λ core other. core ≢ other) cores
different_from_once cores once i j d below within same =
    let core = get_or cores i d in
    let weight : ℕ → ℕ = λ other. cond (is_core core other) 1 0 in
    grind (arith, nat_tests, common_steps, once core, length-take-le j cores, get_or-le-sum_by weight (take j cores) i d, count_by_more_yes (is_core core) cores j d, sum_by-take-le weight cores (j + 1))
