-- Laws of the first application in need.
use Rattle.arb_seats.proofs.Words.{◌≡◌, ℕ, ◌<◌, List, length, arith, Option, Some, None, true, false, not, ◌&&◌, ◌==◌, nat_lt, nat_tests, slice_index, MatchOption, applications, has_bit, inl, inr, cases_lt, get_or_past}
use Rattle.arb_seats.proofs.BitsLaws.{FirstOf}

module _ (needs : List ℕ) (word : ℕ) (long : length needs ≡ applications) (marked : (app : ℕ) → has_bit word app ≡ (nat_lt app applications && not (slice_index needs app == 0))) where
  -- an application that isn't marked needs nothing, and one that is needs some
  needs_none : (app : ℕ) → has_bit word app ≡ false → slice_index needs app ≡ 0
  needs_none app off = elim (cases_lt app applications) [
    | inl low ↦ grind (arith, nat_tests, marked app)
    | inr past ↦ grind (arith, long, get_or_past)
  ]

  needs_some : (app : ℕ) → has_bit word app ≡ true → (app < applications) × (0 < slice_index needs app)
  needs_some app on = grind (arith, nat_tests, marked app)

  -- the first application that is marked is the first one in need
  pub first_in_need : (found : Option ℕ)
      → FirstOf word found
      → MatchOption found ((app : ℕ) → slice_index needs app ≡ 0) (λ first. (first < applications) × ((0 < slice_index needs first) × ((app : ℕ) → app < first → slice_index needs app ≡ 0)))
  first_in_need None none = λ app. needs_none app (none app)
  first_in_need (Some first) some =
      let wants = needs_some first some.1.0 in
      (wants.0, (wants.1, λ app less. needs_none app (some.1.1 app less)))
