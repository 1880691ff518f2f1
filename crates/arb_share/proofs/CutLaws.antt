-- A request has exactly one cut at a cap.
use Rattle.std.proofs.Common.{◌≡◌, ℕ, ◌+◌, ◌-◌, ◌<◌, ◌≤◌, List, [], ◌∷◌, length, take, get_or, sum, min, zero, suc, refl, arith, sym, ap, ◌∙◌, add-one}
use Rattle.std.proofs.lemmas.List.Sums.{sum_by-cons}
use Rattle.std.proofs.lemmas.Grind.{common_steps, same_number_lists}
use Rattle.arb_share.specs.Limits.{levels}
use Rattle.arb_share.specs.Division.{ExactlyOne}
use Rattle.arb_share.specs.Cut.{IsCut, cut_of}

pub length-cut_of : (cap : ℕ) (full : List ℕ) → length (cut_of cap full) ≡ length full
unfolding cut_of
length-cut_of cap [] = refl
length-cut_of cap (x ∷ xs) = ap suc (length-cut_of (cap - x) xs)

-- each level has what it had, or what the levels before it leave of the cap
pub get_or-cut_of : (cap : ℕ) (full : List ℕ) (level : ℕ) → get_or (cut_of cap full) level 0 ≡ min (cap - sum (take level full)) (get_or full level 0)
unfolding cut_of
get_or-cut_of cap [] level = omega arith
get_or-cut_of cap (x ∷ xs) zero = omega arith
get_or-cut_of cap (x ∷ xs) (suc k) = omega (arith, get_or-cut_of (cap - x) xs k, sum_by-cons (λ n. n) x (take k xs))

pub sum-take-cut_of : (cap : ℕ) (full : List ℕ) (n : ℕ) → sum (take n (cut_of cap full)) ≡ min cap (sum (take n full))
unfolding cut_of
sum-take-cut_of cap [] n = grind (arith, common_steps)
sum-take-cut_of cap (x ∷ xs) zero = omega arith
sum-take-cut_of cap (x ∷ xs) (suc n) =
    omega (arith, sum-take-cut_of (cap - x) xs n, sum_by-cons (λ n. n) x (take n xs), sum_by-cons (λ n. n) (min cap x) (take n (cut_of (cap - x) xs)))

pub IsCut-cut_of : (cap : ℕ) (full : List ℕ) → length full ≡ levels → IsCut cap full (cut_of cap full)
IsCut-cut_of cap full e =
    record { one_each = length-cut_of cap full ∙ e; up_to = λ level _. sum-take-cut_of cap full (level + 1) }

-- a row is the cut where it has an entry for each level, as the cut keeps it
pub cut_of-by_level : (cap : ℕ) (full cut : List ℕ) → length cut ≡ length full → ((k : ℕ) → k < length cut → get_or cut k 0 ≡ min (cap - sum (take k full)) (get_or full k 0)) → cut ≡ cut_of cap full
cut_of-by_level cap full cut e h =
    same_number_lists _ _ (e ∙ sym (length-cut_of cap full)) (λ k lt. h k lt ∙ sym (get_or-cut_of cap full k))

-- one entry more in a sum
sum-take-suc : (k : ℕ) (xs : List ℕ) → sum (take (suc k) xs) ≡ sum (take k xs) + get_or xs k 0
sum-take-suc k [] = grind (arith, common_steps)
sum-take-suc zero (x ∷ xs) = omega (arith, sum_by-cons (λ n. n) x [])
sum-take-suc (suc k) (x ∷ xs) = omega (arith, sum-take-suc k xs, sum_by-cons (λ n. n) x (take k xs), sum_by-cons (λ n. n) x (take (suc k) xs))

-- no other row is cut at the same cap
pub cut_of-only : (cap : ℕ) (full cut : List ℕ) → length full ≡ levels → IsCut cap full cut → cut ≡ cut_of cap full
cut_of-only cap full cut e p =
    cut_of-by_level cap full cut (p.one_each ∙ sym e) (λ k lt. omega (arith, kept k, kept (suc k), p.one_each, sum-take-suc k cut, sum-take-suc k full))
  where
    kept : (k : ℕ) → k ≤ levels → sum (take k cut) ≡ min cap (sum (take k full))
    kept zero h = omega arith
    kept (suc k) h = rw (← add-one) (p.up_to k (omega arith))

pub IsCut-ExactlyOne : (cap : ℕ) (full : List ℕ) → length full ≡ levels → ExactlyOne (IsCut cap full)
IsCut-ExactlyOne cap full e =
    record { answer = cut_of cap full; is_answer = IsCut-cut_of cap full e; only_answer = λ other p. cut_of-only cap full other e p }
