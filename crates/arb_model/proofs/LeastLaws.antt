-- That the least can be picked in exactly one way, and that `least_of` names it.
use Rattle.std.proofs.lemmas.Grind.{common_steps}
use Rattle.std.proofs.lemmas.Bool.Decides.{nat_tests}
use Rattle.std.proofs.Common.{◌≡◌, ℕ, ◌+◌, ◌<◌, ◌≤◌, List, [], ◌∷◌, length, set, zero, suc, replicate, refl, ◌⊎◌, inl, inr, arith, sym, ap, ◌∙◌, subst, Bool, true, false}
use Rattle.std.specs.List.{count_by}
use Rattle.std.proofs.lemmas.List.{get_or-set_same, get_or-set_other, length-set, get_or_past, length-replicate, ext_get_or}
use Rattle.std.proofs.lemmas.List.Sums.{sum_by-cons, sum_by-set}
use Rattle.std.proofs.lemmas.Bool.{cases_Bool, false≢true, and_parts, le-ltb, lt-ltb, ltb-true}
use Rattle.std.specs.Prelude.{◌&&◌, nat_lt}
use Rattle.arb_model.specs.Lists.{count_below, each_at, one_if}
use Rattle.arb_model.specs.Least.{ahead_of, least_of, precedes}
use Rattle.arb_model.specs.Pick.{Key, ComesFirst, PicksLeast, Precedes, is_set, key_at}
use Rattle.arb_model.proofs.CountLaws.{count_below-subset, count_below-smaller, count_below-flags}
use Rattle.arb_model.proofs.ListLaws.{get_or-each_at, length-each_at, get_or-same}

-- a place below n, a candidate not yet picked, before the others below n
pub record IsLeastBelow (keys : List Key) (candidates picked : List Bool) (n place : ℕ) : Type 0 where
  pub inside : place < n
  pub is_candidate : is_set candidates place ≡ true
  pub is_left : is_set picked place ≡ false
  pub least : (q : ℕ) → q < n → is_set candidates q ≡ true → is_set picked q ≡ false → ((q ≡ place) ⊎ ComesFirst keys place q)

pub Precedes-asym : (a b : Key) (p q : ℕ) → Precedes a p b q → Precedes b q a p → ⊥
Precedes-asym a b p q x y = grind arith

pub Precedes-total : (a b : Key) (p q : ℕ) → (p ≡ q) ⊎ (Precedes a p b q ⊎ Precedes b q a p)
Precedes-total a b p q = grind (arith, nat_tests, common_steps)

-- how many flags are set
abbrev pub count : List Bool → ℕ
count flags = count_by (λ b. b) flags

-- fewer flags, a lesser count
pub count-le : (xs ys : List Bool) → length xs ≡ length ys → ((p : ℕ) → is_set xs p ≡ true → is_set ys p ≡ true) → count xs ≤ count ys
count-le [] ys e h = omega arith
count-le (x ∷ xs) [] e h = absurd (omega arith)
count-le (false ∷ xs) (y ∷ ys) e h =
    omega (arith, sum_by-cons one_if false xs, sum_by-cons one_if y ys, count-le xs ys (omega arith) (λ p. h (suc p)))
count-le (true ∷ xs) (y ∷ ys) e h =
    let here : y ≡ true = h 0 refl in
    omega (arith, sum_by-cons one_if true xs, sum_by-cons one_if y ys, ap one_if here, count-le xs ys (omega arith) (λ p. h (suc p)))

-- a flag that is set has a place in the list
pub flag_in : (flags : List Bool) (p : ℕ) → is_set flags p ≡ true → p < length flags
flag_in flags p h = grind (arith, nat_tests, common_steps, false≢true, get_or_past)

set_flag : (flags : List Bool) (place : ℕ) → place < length flags → (p : ℕ) → ((p ≡ place) × (is_set (set flags place true) p ≡ true)) ⊎ ((p ≡ place → ⊥) × (is_set (set flags place true) p ≡ is_set flags p))
set_flag flags place within p = grind (arith, nat_tests, common_steps, get_or-set_same, get_or-set_other)

count-set : (flags : List Bool) (place : ℕ) → place < length flags → is_set flags place ≡ false → count (set flags place true) ≡ count flags + 1
count-set flags place within clear = grind (arith, nat_tests, sum_by-set)

-- nothing is picked for nothing
pub PicksLeast-none : (keys : List Key) (candidates picked : List Bool) → length picked ≡ length candidates → ((p : ℕ) → is_set picked p ≡ false) → count picked ≡ 0 → PicksLeast keys candidates 0 picked
PicksLeast-none keys candidates picked e clear z = grind (arith, nat_tests, common_steps, false≢true)

-- the least of those left is picked next
pub PicksLeast-more : (keys : List Key) (candidates : List Bool) (size : ℕ) (picked : List Bool) (place : ℕ) → PicksLeast keys candidates size picked → IsLeastBelow keys candidates picked (length candidates) place → PicksLeast keys candidates (size + 1) (set picked place true)
PicksLeast-more keys candidates size picked place p b = grind (arith, nat_tests, set_flag, length-set, count-set, count-le, false≢true, flag_in)

-- all candidates are picked
pub PicksLeast-all : (keys : List Key) (candidates : List Bool) (size : ℕ) (picked : List Bool) → PicksLeast keys candidates size picked → ((q : ℕ) → q < length candidates → is_set candidates q ≡ true → is_set picked q ≡ true) → PicksLeast keys candidates (size + 1) picked
PicksLeast-all keys candidates size picked p all = grind (arith, nat_tests, common_steps, count-le, flag_in)

-- no flag of a list of clear ones is set
pub clear_at : (n p : ℕ) → is_set (replicate n false) p ≡ false
clear_at n p = get_or-same n p false

pub count-clear : (n : ℕ) → count (replicate n false) ≡ 0
count-clear zero = refl
count-clear (suc n) = omega (arith, sum_by-cons one_if false (replicate n false), count-clear n)

-- the place n is the only one left up to itself
least_alone : (keys : List Key) (candidates picked : List Bool) (n : ℕ) → is_set candidates n ≡ true → is_set picked n ≡ false → ((q : ℕ) → q < n → is_set candidates q ≡ true → is_set picked q ≡ true) → IsLeastBelow keys candidates picked (suc n) n
least_alone keys candidates picked n here left none = grind (arith, nat_tests)

-- the place n comes before the least below it
least_first : (keys : List Key) (candidates picked : List Bool) (n place : ℕ) → is_set candidates n ≡ true → is_set picked n ≡ false → ComesFirst keys n place → IsLeastBelow keys candidates picked n place → IsLeastBelow keys candidates picked (suc n) n
least_first keys candidates picked n place here left lead b = grind (arith, nat_tests)

-- the least below n stays so, where the place n is no candidate, is picked or comes later
least_kept : (keys : List Key) (candidates picked : List Bool) (n place : ℕ) → (is_set candidates n ≡ true → is_set picked n ≡ false → ComesFirst keys place n) → IsLeastBelow keys candidates picked n place → IsLeastBelow keys candidates picked (suc n) place
least_kept keys candidates picked n place later b = grind (arith, nat_tests)

-- none is left up to the place n, where none is left below it, and it is no candidate or is picked
none_left : (candidates picked : List Bool) (n : ℕ) → (is_set candidates n ≡ true → is_set picked n ≡ true) → ((q : ℕ) → q < n → is_set candidates q ≡ true → is_set picked q ≡ true) → (q : ℕ) → q < suc n → is_set candidates q ≡ true → is_set picked q ≡ true
none_left candidates picked n here none q less on = grind (arith, nat_tests)

-- a place is left, or it is no candidate or picked
left_or_not : (a b : Bool) → ((a ≡ true) × (b ≡ false)) ⊎ (a ≡ true → b ≡ true)
left_or_not a b = grind arith

-- the least of the candidates left below n, if one is left
pub best_below : (keys : List Key) (candidates picked : List Bool) (n : ℕ) → ((place : ℕ) × IsLeastBelow keys candidates picked n place) ⊎ ((q : ℕ) → q < n → is_set candidates q ≡ true → is_set picked q ≡ true)
best_below keys candidates picked zero = inr (λ q h. absurd (omega arith))
best_below keys candidates picked (suc n) =
    elim (best_below keys candidates picked n) [
      | inr none ↦ elim (left_or_not (is_set candidates n) (is_set picked n)) [
        | inl here ↦ inl (n, least_alone keys candidates picked n here.0 here.1 none)
        | inr gone ↦ inr (none_left candidates picked n gone none)
      ]
      | inl b ↦ elim (left_or_not (is_set candidates n) (is_set picked n)) [
        | inl here ↦ elim (Precedes-total (key_at keys n) (key_at keys b.0) n b.0) [
          | inl e ↦ absurd (omega (arith, b.1.inside))
          | inr which ↦ elim which [
            | inl lead ↦ inl (n, least_first keys candidates picked n b.0 here.0 here.1 lead b.1)
            | inr after ↦ inl (b.0, least_kept keys candidates picked n b.0 (λ _ _. after) b.1)
          ]
        ]
        | inr gone ↦ inl (b.0, least_kept keys candidates picked n b.0 (λ c l. absurd (false≢true (sym l ∙ gone c))) b.1)
      ]
    ]

pub PicksLeast-exists : (keys : List Key) (candidates : List Bool) (size : ℕ) → (picked : List Bool) × PicksLeast keys candidates size picked
PicksLeast-exists keys candidates zero =
    (replicate (length candidates) false, PicksLeast-none keys candidates (replicate (length candidates) false) (length-replicate (length candidates) false) (clear_at (length candidates)) (count-clear (length candidates)))
PicksLeast-exists keys candidates (suc size) =
    let w = PicksLeast-exists keys candidates size in
    let one_more : size + 1 ≡ suc size = omega arith in
    elim (best_below keys candidates w.0 (length candidates)) [
      | inl b ↦ (set w.0 b.0 true, subst (λ (n : ℕ). PicksLeast keys candidates n (set w.0 b.0 true)) one_more (PicksLeast-more keys candidates size w.0 b.0 w.1 b.1))
      | inr none ↦ (w.0, subst (λ (n : ℕ). PicksLeast keys candidates n w.0) one_more (PicksLeast-all keys candidates size w.0 w.1 none))
    ]

-- the test of the order says the order
pub Precedes-tested : (a b : Key) (p q : ℕ) → precedes a p b q ≡ true → Precedes a p b q
Precedes-tested a b p q h = grind (arith, nat_tests, common_steps, ltb-true)

-- and the order passes the test
pub tested-Precedes : (a b : Key) (p q : ℕ) → Precedes a p b q → precedes a p b q ≡ true
tested-Precedes a b p q h = grind (arith, nat_tests, common_steps, lt-ltb)

-- a candidate that is picked has fewer ahead than are picked
picked_ahead : (keys : List Key) (candidates : List Bool) (size : ℕ) (x : List Bool) → PicksLeast keys candidates size x → (p : ℕ) → p < length candidates → is_set x p ≡ true → ahead_of keys candidates p < size
picked_ahead keys candidates size x l p within on =
    let ahead : ℕ → Bool = λ q. is_set candidates q && precedes (key_at keys q) q (key_at keys p) p in
    let not_itself : ahead p ≡ false = elim (cases_Bool (ahead p)) [
      | inr e ↦ e
      | inl e ↦
          let before : Precedes (key_at keys p) p (key_at keys p) p = Precedes-tested (key_at keys p) (key_at keys p) p p (and_parts (is_set candidates p) _ e).1 in
          absurd (Precedes-asym (key_at keys p) (key_at keys p) p p before before)
    ] in
    let inside : (q : ℕ) → q < length candidates → ahead q ≡ true → is_set x q ≡ true = λ q _ h.
    let parts = and_parts (is_set candidates q) (precedes (key_at keys q) q (key_at keys p) p) h in
    elim (cases_Bool (is_set x q)) [
      | inl e ↦ e
      | inr left ↦ absurd (Precedes-asym (key_at keys p) (key_at keys q) p q (l.least p q on parts.0 left) (Precedes-tested (key_at keys q) (key_at keys p) q p parts.1))
    ] in
    omega (arith, count_below-smaller ahead (is_set x) (length candidates) p within not_itself on inside, count_below-flags x, l.one_each, l.as_many, ap (count_below (is_set x)) l.one_each)

-- and one that isn't has as many
left_ahead : (keys : List Key) (candidates : List Bool) (size : ℕ) (x : List Bool) → PicksLeast keys candidates size x → (p : ℕ) → p < length candidates → is_set candidates p ≡ true → is_set x p ≡ false → size ≤ ahead_of keys candidates p
left_ahead keys candidates size x l p within here off =
    let ahead : ℕ → Bool = λ q. is_set candidates q && precedes (key_at keys q) q (key_at keys p) p in
    let inside : (q : ℕ) → q < length candidates → is_set x q ≡ true → ahead q ≡ true = λ q _ h.
    let a : is_set candidates q ≡ true = l.among q h in
    let b : precedes (key_at keys q) q (key_at keys p) p ≡ true = tested-Precedes (key_at keys q) (key_at keys p) q p (l.least q p h here off) in
    rw (a, b) refl in
    let fewer : count_below (is_set x) (length candidates) < count_below (is_set candidates) (length candidates) =
    count_below-smaller (is_set x) (is_set candidates) (length candidates) p within off here (λ q _ h. l.among q h) in
    omega (arith, fewer, count_below-subset (is_set x) ahead (length candidates) inside, count_below-flags x, count_below-flags candidates, l.as_many, ap (count_below (is_set x)) l.one_each)

least_at : (keys : List Key) (candidates : List Bool) (size : ℕ) (x : List Bool) → PicksLeast keys candidates size x → (p : ℕ) → p < length candidates → is_set x p ≡ (is_set candidates p && nat_lt (ahead_of keys candidates p) size)
least_at keys candidates size x l p within =
    elim (cases_Bool (is_set x p)) [
      | inl on ↦
          let a : is_set candidates p ≡ true = l.among p on in
          let b : nat_lt (ahead_of keys candidates p) size ≡ true = lt-ltb (ahead_of keys candidates p) size (picked_ahead keys candidates size x l p within on) in
          rw (a, b) on
      | inr off ↦ elim (cases_Bool (is_set candidates p)) [
        | inr none ↦ rw none off
        | inl here ↦
            let b : nat_lt (ahead_of keys candidates p) size ≡ false = le-ltb (ahead_of keys candidates p) size (left_ahead keys candidates size x l p within here off) in
            rw (here, b) off
      ]
    ]

-- no flags but those of `least_of` pick the least
pub least_of-only : (keys : List Key) (candidates : List Bool) (size : ℕ) (x : List Bool) → PicksLeast keys candidates size x → x ≡ least_of keys candidates size
unfolding least_of
least_of-only keys candidates size x l =
    let f : ℕ → Bool → Bool = λ place is_candidate. is_candidate && nat_lt (ahead_of keys candidates place) size in
    ext_get_or false x (each_at f 0 candidates) (l.one_each ∙ sym (length-each_at f 0 candidates))
    (λ p h. let within : p < length candidates = omega (arith, h, l.one_each) in least_at keys candidates size x l p within ∙ sym (get_or-each_at f candidates p false false within))

-- and these do
pub PicksLeast-least_of : (keys : List Key) (candidates : List Bool) (size : ℕ) → PicksLeast keys candidates size (least_of keys candidates size)
PicksLeast-least_of keys candidates size =
    let some = PicksLeast-exists keys candidates size in
    subst (PicksLeast keys candidates size) (least_of-only keys candidates size some.0 some.1) some.1
