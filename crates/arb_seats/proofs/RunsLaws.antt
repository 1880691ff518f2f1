-- The least of a list's numbers from one index on, by that of two runs of them.
use Rattle.arb_seats.proofs.Words.{◌≡◌, ℕ, ◌+◌, ◌-◌, ◌<◌, ◌≤◌, List, arith, ap, sym, ◌∙◌, ◌*◌, ◌⊎◌, inl, inr, cases_lt, slice_index}
use Rattle.std.specs.Prelude.{min}
use Rattle.arb_seats.specs.Slots.{IsLeast}

-- the least of two runs, one behind the other
pub joined : (xs : List ℕ) (limit from n m a b : ℕ) → IsLeast xs limit from n a → IsLeast xs limit (from + n) m b → IsLeast xs limit from (n + m) (min a b)
joined xs limit from n m a b left right = record { all = all; one = one }
  where
    behind : (k : ℕ) → (from + n) + k ≡ from + (n + k)
    behind k = omega arith

    all : (k : ℕ) → k < n + m → min a b ≤ slice_index xs (from + k)
    all k less =
        elim (cases_lt k n) [
          | inl low ↦ omega (arith, left.all k low)
          | inr high ↦ omega (arith, right.all (k - n) (omega (arith, less, high)), ap (slice_index xs) (back k high))
        ]
      where
        back : (k : ℕ) → n ≤ k → (from + n) + (k - n) ≡ from + k
        back k high = omega (arith, high)

    one : min a b < limit → (k : ℕ) × (k < n + m) × (slice_index xs (from + k) ≡ min a b)
    one low = pick (cases_lt b a)
      where
        pick : (b < a) ⊎ (a ≤ b) → (k : ℕ) × (k < n + m) × (slice_index xs (from + k) ≡ min a b)
        pick (inl less) =
            let found : (k : ℕ) × (k < m) × (slice_index xs ((from + n) + k) ≡ b) = right.one (omega (arith, low, less)) in
            (n + found.0, omega (arith, found.1), sym (ap (slice_index xs) (behind found.0)) ∙ found.2 ∙ omega (arith, less))
        pick (inr more) =
            let found : (k : ℕ) × (k < n) × (slice_index xs (from + k) ≡ a) = left.one (omega (arith, low, more)) in
            (found.0, omega (arith, found.1), found.2 ∙ omega (arith, more))

-- the least of four runs
pub of_four : (xs : List ℕ) (limit from n a b c d : ℕ) → IsLeast xs limit from n a → IsLeast xs limit (from + n) n b → IsLeast xs limit (from + 2 * n) n c → IsLeast xs limit (from + 3 * n) n d
    → IsLeast xs limit from (4 * n) (min (min a b) (min c d))
of_four xs limit from n a b c d first second third last =
    let two : from + 2 * n ≡ from + (n + n) = omega arith in
    let three : from + 3 * n ≡ (from + (n + n)) + n = omega arith in
    let four : (n + n) + (n + n) ≡ 4 * n = omega arith in
    rw (← four)
    (joined xs limit from (n + n) (n + n) (min a b) (min c d) (joined xs limit from n n a b first second) (joined xs limit (from + (n + n)) n n c d (rw (← two) third) (rw (← three) last)))
