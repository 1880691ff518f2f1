-- Words for loops that go from one position of interest to the next.
use Rattle.arb_seats.proofs.Words.{◌≡◌, ℕ, ◌-◌, ◌<◌, ◌≤◌, Bool, true, false, Option, Some, None, suc, MatchOption, set_size}

-- how many positions there are from one on, of a set
abbrev pub positions_from : Option ℕ → ℕ
positions_from None = 0
positions_from (Some place) = suc (set_size - place)

-- a fact of all positions where none follows, else of those before the one that follows
abbrev pub UpTo : (n : ℕ) → (ℕ → Type 0) → Option ℕ → Type 0
UpTo n Holds at = MatchOption at (Holds n) (λ place. (place < n) × Holds place)

-- the first position below n, from one on, that passes a test, if any position does
abbrev pub FirstFrom : (n from : ℕ) → (ℕ → Bool) → Option ℕ → Type 0
FirstFrom n from passes found =
    MatchOption found ((p : ℕ) → from ≤ p → passes p ≡ false) (λ q. (from ≤ q) × ((q < n) × ((passes q ≡ true) × ((p : ℕ) → from ≤ p → p < q → passes p ≡ false))))
