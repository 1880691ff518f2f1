-- Laws of the grant of a single free core.
use Rattle.arb_seats.proofs.Words.{◌≡◌, ℕ, ◌+◌, ◌<◌, List, length, zero, suc, refl, arith, ap, sym, ◌∙◌, map, set, get_or, range_with_len, get_or-map, length-replicate}
use Rattle.arb_seats.proofs.Words.{Seats, after_grants, free_count, granted, need_of, applications, waiting_count}
use Rattle.std.proofs.lemmas.List.Folds.{sum_by-replicate}
use Rattle.std.proofs.lemmas.List.FromFn.{get_or-range_with_len}
use Rattle.arb_model.specs.Grants.{granted_from}
use Rattle.arb_model.proofs.GrantsLaws.{after_grants-unneeded}
use Rattle.arb_share.specs.Division.{DividesEvenly}
use Rattle.arb_share.proofs.DivisionLaws.{DividesEvenly-deal, DividesEvenly-none, IsNextTurn, dealt, even_of-only, sum-le, zeros, zeros_at}

-- one core goes to the first that demands any
divided_one : (d : List ℕ) (i : ℕ) → i < length d → 0 < get_or d i 0 → ((k : ℕ) → k < i → get_or d k 0 ≡ 0) → DividesEvenly d 1 (set (zeros (length d)) i 1)
divided_one d i within wants none =
    let n : ℕ = length d in
    let first : IsNextTurn d (zeros n) n i = record { within = within; wants = omega (arith, zeros_at n i); least = λ k less h. grind (arith, zeros_at n, none k) } in
    let one : dealt (zeros n) i ≡ set (zeros n) i 1 = ap (λ (m : ℕ). set (zeros n) i (m + 1)) (zeros_at n i) in
    rw (← one) (DividesEvenly-deal d 0 (zeros n) i (DividesEvenly-none d) first)

-- the grants of none change nothing, and those of one are its grant
granted_none : (sockets : List ℕ) (app n : ℕ) (s : Seats) → granted_from sockets app (zeros n) s ≡ s
granted_none sockets app zero s = refl
granted_none sockets app (suc n) s = granted_none sockets (app + 1) n s

granted_one : (sockets : List ℕ) (app i n : ℕ) (s : Seats) → i < n → granted_from sockets app (set (zeros n) i 1) s ≡ granted sockets (app + i) s
granted_one sockets app i zero s less = absurd (omega arith)
granted_one sockets app zero (suc n) s less = granted_none sockets (app + 1) n (granted sockets app s) ∙ ap (λ (a : ℕ). granted sockets a s) (omega arith)
granted_one sockets app (suc i) (suc n) s less = granted_one sockets (app + 1) i n s (omega arith) ∙ ap (λ (a : ℕ). granted sockets a s) (omega arith)

module _ (s : Seats) (due : List ℕ) where
  -- what each application needs
  abbrev pub needs_of : List ℕ
  needs_of = map (need_of s due) (range_with_len 0 applications)

  -- a single free core goes to the first application in need
  pub after_grants-one : (sockets : List ℕ) (first : ℕ) → free_count s.cores ≡ 1 → first < applications → 0 < get_or needs_of first 0
      → ((k : ℕ) → k < first → get_or needs_of k 0 ≡ 0) → after_grants sockets due s ≡ granted sockets first s
  after_grants-one sockets first one inside wants none =
      let is = even_of-only needs_of 1 _ (divided_one needs_of first inside wants none) in
      let zero_more : 0 + first ≡ first = omega arith in
      rw (one, ← is) (granted_one sockets 0 first applications s inside ∙ ap (λ (app : ℕ). granted sockets app s) zero_more)

  -- an application in need has a thread that waits
  pub need_waits : (app : ℕ) → app < applications → 0 < get_or needs_of app 0 → 0 < waiting_count app s.waiting
  need_waits app inside wants =
      let numbers : List ℕ = range_with_len 0 applications in
      let at : get_or needs_of app 0 ≡ need_of s due (get_or numbers app 0) = get_or-map (need_of s due) numbers app 0 0 inside in
      let zero_more : 0 + app ≡ app = omega arith in
      let is : get_or numbers app 0 ≡ app = get_or-range_with_len 0 applications app 0 inside ∙ zero_more in
      omega (arith, wants, at, ap (need_of s due) is)

  -- where no application is in need, none is granted
  pub after_grants-nobody : (sockets : List ℕ) → ((k : ℕ) → get_or needs_of k 0 ≡ 0) → after_grants sockets due s ≡ s
  after_grants-nobody sockets none =
      let n : ℕ = length needs_of in
      let long : n ≡ length (zeros n) = sym (length-replicate {A = ℕ} n 0) in
      after_grants-unneeded sockets due s (omega (arith, sum-le needs_of (zeros n) long (λ k less. omega (arith, none k)), sum_by-replicate (λ m. m) n 0))
