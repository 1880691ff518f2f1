-- Laws of the slots: which threads they hold.
use Rattle.arb_seats.proofs.Words.{◌≡◌, ℕ, ◌+◌, ◌<◌, ◌≤◌, List, [], ◌∷◌, length, get_or, set, zero, suc, take, arith, Bool, true, false, not, inl, inr, filter, ◌==◌, ◌&&◌, remove, All, count_by}
use Rattle.arb_seats.proofs.Words.{position_or_len, nat_tests, common_steps, cases_lt, eq-eqb, eqb-true, lt-ltb, get_or-le-sum_by, sum_by-cons, one_if, app_of, times_waiting, all_threads}
use Rattle.arb_seats.proofs.Words.{threads_in, AreKnown, is_thread, count_by_filter, position_or_len-lt}
use Rattle.std.proofs.Common.{◌≢◌}
use Rattle.std.proofs.lemmas.List.{length-take-le, get_or-take}
use Rattle.std.proofs.lemmas.List.Elements.{filter_passes}
use Rattle.std.proofs.lemmas.List.Sums.{passes_at_first, sum_by_more_le}

-- where a thread of some kind is in the slots, there is its slot
pub slot_with : (g : ℕ → Bool) (xs : List ℕ) → 0 < count_by g (threads_in xs) → (p : ℕ) × (p < length xs) × (get_or xs p 0 < all_threads) × (g (get_or xs p 0) ≡ true)
slot_with g xs some =
    let passes : ℕ → Bool = λ (x : ℕ). is_thread x && g x in
    let within = position_or_len-lt passes xs (omega (arith, count_by_filter g is_thread xs)) in
    let found = passes_at_first passes xs 0 within in
    (position_or_len passes xs, within, grind arith, grind arith)

-- a thread that is in the slots counts
pub slot_counts : (g : ℕ → Bool) (xs : List ℕ) (p : ℕ) → p < length xs → get_or xs p 0 < all_threads → g (get_or xs p 0) ≡ true → 0 < count_by g (threads_in xs)
slot_counts g xs p h lt hit = grind (arith, lt-ltb, count_by_filter, get_or-le-sum_by (λ x. one_if (is_thread x && g x)) xs p 0 h)

once_from : (f : ℕ → ℕ) (k : ℕ) (xs : List ℕ) → ((p : ℕ) → p < length xs → get_or xs p 0 < all_threads → f (get_or xs p 0) ≡ k + p) → (t : ℕ) → times_waiting t (threads_in xs) ≤ 1
once_from f k [] h t = omega arith
once_from f k (x ∷ xs) h t =
    let rest = once_from f (k + 1) xs (λ p lt is. omega (arith, h (suc p) (omega arith) is)) t in
    elim (cases_lt 0 (times_waiting t (threads_in xs))) [
      | inr none ↦ grind (arith, nat_tests, sum_by-cons (λ y. one_if (y == t)) x (threads_in xs))
      | inl some ↦ let r = slot_with (λ y. y == t) xs some in grind (arith, nat_tests, sum_by-cons, eqb-true, h 0, h (suc r.0))
    ]

-- where the slot of each thread is known, each thread is in one slot at most
pub once_known : (slots slot_of : List ℕ) → AreKnown slots slot_of → (t : ℕ) → times_waiting t (threads_in slots) ≤ 1
once_known slots slot_of h t = once_from (λ t. get_or slot_of t 0) 0 slots (λ p lt is. omega arith) t

-- what the slots hold are threads
pub are_threads : (slots : List ℕ) → All (λ t. t < all_threads) (threads_in slots)
are_threads slots = grind (arith, nat_tests, filter_passes is_thread slots)

-- a filter for all but a number that isn't there
pub filter_absent : (t : ℕ) (ws : List ℕ) → times_waiting t ws ≡ 0 → filter (λ y. not (y == t)) ws ≡ ws
filter_absent t [] h = grind arith
filter_absent t (x ∷ xs) h = grind (arith, nat_tests, common_steps, filter_absent t xs)

-- where a thread leaves its slot, the others stay
pub threads_left : (slots : List ℕ) (p t : ℕ) → p < length slots → get_or slots p 0 ≡ t → t < all_threads → times_waiting t (threads_in slots) ≤ 1
    → threads_in (set slots p all_threads) ≡ filter (λ y. not (y == t)) (threads_in slots)
threads_left [] p t lt is small once = absurd (omega arith)
threads_left (x ∷ xs) zero t lt is small once = grind (arith, nat_tests, common_steps, sum_by-cons, filter_absent)
threads_left (x ∷ xs) (suc p) t lt is small once =
    let there = slot_counts (λ y. y == t) xs p (omega arith) (omega arith) (eq-eqb _ _ is) in
    let rest = threads_left xs p t (omega arith) is small in
    grind (arith, nat_tests, common_steps)

-- the first thread of an application is the one before whose slot no slot has another of it
pub first_thread : (app : ℕ) (slots : List ℕ) (p t : ℕ) → p < length slots → get_or slots p 0 ≡ t → t < all_threads → (app_of t == app) ≡ true
    → ((q : ℕ) → q < p → get_or slots q 0 < all_threads → (app_of (get_or slots q 0) == app) ≡ false) → get_or (threads_in slots) (position_or_len (λ y. app_of y == app) (threads_in slots)) 0 ≡ t
first_thread app [] p t lt is small of none = absurd (omega arith)
first_thread app (x ∷ xs) zero t lt is small of none = grind (arith, nat_tests)
first_thread app (x ∷ xs) (suc p) t lt is small of none =
    grind (arith, nat_tests, common_steps, none 0, first_thread app xs p t (omega arith) is small of (λ q l. none (suc q) (omega arith)))

-- where each stands once at most, the one at a place leaves by its number or by its place
pub remove_at : (ws : List ℕ) (n : ℕ) → n < length ws → ((t : ℕ) → times_waiting t ws ≤ 1) → filter (λ y. not (y == get_or ws n 0)) ws ≡ remove ws n
remove_at [] n lt once = absurd (omega arith)
remove_at (x ∷ xs) zero lt once = grind (arith, nat_tests, common_steps, filter_absent x xs)
remove_at (x ∷ xs) (suc n) lt once =
    let rest = remove_at xs n (omega arith) (λ u. omega (arith, once u, sum_by-cons (λ y. one_if (y == u)) x xs)) in
    grind (arith, nat_tests, common_steps)

-- two places of a list in which each stands once at most hold two numbers
pub apart : (xs : List ℕ) (p q : ℕ) → ((t : ℕ) → times_waiting t xs ≤ 1) → p < q → q < length xs → get_or xs p 0 ≢ get_or xs q 0
apart xs p q once less within e =
    let count : ℕ → ℕ = λ (y : ℕ). one_if (y == get_or xs q 0) in
    grind (arith, once (get_or xs q 0), eq-eqb, get_or-take, length-take-le q xs, get_or-le-sum_by count (take q xs) p 0, sum_by_more_le count xs q 0)

-- the threads of threads alone
pub threads_twice : (slots : List ℕ) → threads_in (threads_in slots) ≡ threads_in slots
threads_twice [] = grind arith
threads_twice (x ∷ xs) = grind (arith, nat_tests, threads_twice xs)
