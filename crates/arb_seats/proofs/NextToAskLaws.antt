-- Laws of the position that an application is asked for next: the last one of the socket where it owns the fewest cores.
use Rattle.arb_seats.proofs.Words.{Cores, ◌≡◌, ℕ, ◌+◌, ◌<◌, ◌≤◌, ◌^◌, List, length, arith, Option, Some, None, true, false, ◌⊎◌, inl, inr, cases_lt, MatchOption, slice_index, ◌==◌, ◌&&◌, not, nat_tests, IsSetOf, refl, sym, ◌∙◌, cases_Bool, false≢true, count_below-le}
use Rattle.arb_seats.proofs.Words.{holder_at, is_asked, is_of, owned_beside, owned_on, NextToAsk, set_size, has_bit}
use Rattle.arb_seats.proofs.BitsLaws.{has_bit-zero}
use Rattle.arb_seats.proofs.PositionSetsLaws.{some_position}

module _ (sockets : List ℕ) (cores : Cores) (app : ℕ) where
  -- the application owns the core at a position, and isn't asked for it
  pub record IsCandidate (q : ℕ) : Type 0 where
    pub inside : q < length cores
    pub is_own : is_of app (holder_at cores q) ≡ true
    pub is_left : is_asked (holder_at cores q) ≡ false

  -- a word has such positions of a socket
  abbrev pub AreLeftOn : (socket there : ℕ) → Type 0
  AreLeftOn socket there = (p : ℕ) → p < set_size → has_bit there p ≡ true → IsCandidate p × (slice_index sockets p ≡ socket)

  -- and all of them
  abbrev pub AreAllOn : (socket there : ℕ) → Type 0
  AreAllOn socket there = (p : ℕ) → IsCandidate p → slice_index sockets p ≡ socket → has_bit there p ≡ true

  -- the positions that the application owns, isn't asked for, and are on a socket
  pub left_on : (socket owned asked left on there : ℕ) → length cores ≤ set_size → IsSetOf owned (length cores) (λ p. is_of app (holder_at cores p)) → IsSetOf asked (length cores) (λ p. is_of app (holder_at cores p) && is_asked (holder_at cores p))
      → IsSetOf on (length cores) (λ p. slice_index sockets p == socket)
      → ((p : ℕ) → p < set_size → has_bit left p ≡ (has_bit owned p && not (has_bit asked p)))
      → ((p : ℕ) → has_bit there p ≡ (has_bit left p && has_bit on p)) → AreLeftOn socket there × AreAllOn socket there
  left_on socket owned asked left on there few are_owned are_asked are_on rest is = (
    λ p low here. elim (cases_lt p (length cores)) [
      | inl inside ↦ grind (arith, nat_tests, is p, rest p low, are_owned.inside p inside, are_asked.inside p inside, are_on.inside p inside)
      | inr past ↦ absurd (grind (arith, nat_tests, is p, are_on.outside p past low))
    ],
    λ p c same. grind (arith, nat_tests, is p, rest p (omega (arith, c.inside)), are_owned.inside p c.inside, are_asked.inside p c.inside, are_on.inside p c.inside),
  )

  -- the sockets below one were looked at: `best` is the best of them, and the application owns `fewest` cores there, where anything is left there
  pub record LookedAt (socket best fewest : ℕ) : Type 0 where
    pub some : fewest < 256 → ((p : ℕ) → IsCandidate p → slice_index sockets p ≡ best → ⊥) → ⊥
    pub own : fewest < 256 → owned_on sockets cores app best ≡ fewest
    pub least : (q : ℕ) → IsCandidate q → slice_index sockets q < socket → fewest ≤ owned_beside sockets cores app q
    pub last : (q : ℕ) → IsCandidate q → slice_index sockets q < socket → owned_beside sockets cores app q ≡ fewest → slice_index sockets q ≤ best

  -- none was looked at
  pub LookedAt-none : LookedAt 0 0 512
  LookedAt-none = record {
    some = λ less. absurd (omega arith);
    own = λ less. absurd (omega arith);
    least = λ q c less. absurd (omega arith);
    last = λ q c less. absurd (omega arith);
  }

  module _ (socket best fewest there : ℕ) (l : LookedAt socket best fewest) (free : AreLeftOn socket there) (all : AreAllOn socket there) where
    nobody : there ≡ 0 → (q : ℕ) → IsCandidate q → slice_index sockets q ≡ socket → ⊥
    nobody none q is on = grind (arith, nat_tests, all q is on, has_bit-zero q)

    -- nothing is left there
    pub LookedAt-empty : there ≡ 0 → LookedAt (socket + 1) best fewest
    LookedAt-empty none = record {
      some = l.some;
      own = l.own;
      least = λ q is less. grind (arith, l.least q is, nobody none q is);
      last = λ q is less even. grind (arith, l.last q is, nobody none q is);
    }

    -- nothing is left there, nor before
    pub LookedAt-still : (rank : ℕ) → there ≡ 0 → 256 ≤ rank → rank ≤ fewest → LookedAt (socket + 1) socket rank
    LookedAt-still rank none high low = record {
      some = λ less. absurd (omega arith);
      own = λ less. absurd (omega arith);
      least = λ q is less. grind (arith, l.least q is, nobody none q is);
      last = λ q is less even. omega (arith, less);
    }

    -- the application owns more there
    pub LookedAt-stays : fewest < owned_on sockets cores app socket → LookedAt (socket + 1) best fewest
    LookedAt-stays more = record {
      some = l.some;
      own = l.own;
      least = λ q is less. grind (arith, l.least q is);
      last = λ q is less even. grind (arith, l.last q is);
    }

    -- it owns no more there
    pub LookedAt-taken : there < 2 ^ set_size → 0 < there → owned_on sockets cores app socket ≤ fewest → LookedAt (socket + 1) socket (owned_on sockets cores app socket)
    LookedAt-taken fits some fewer = record {
      some = λ less none. some_position there fits some (λ p low. off p low none);
      own = λ less. refl;
      least = λ q is less. grind (arith, l.least q is);
      last = λ q is less even. omega (arith, less);
    }
      where
        off : (p : ℕ) → p < set_size → ((p : ℕ) → IsCandidate p → slice_index sockets p ≡ socket → ⊥) → has_bit there p ≡ false
        off p low none = grind (arith, free p low, none p)

  -- the last position that is left on the best socket of all is the next to ask
  module _ (best fewest end there : ℕ) (l : LookedAt end best fewest) (below : (q : ℕ) → q < length cores → slice_index sockets q < end)
      (rise : (p q : ℕ) → p ≤ q → q < length cores → slice_index sockets p ≤ slice_index sockets q) (few : length cores ≤ set_size)
      (free : AreLeftOn best there) (all : AreAllOn best there) where
    -- where anything is left, something was found
    found : (q : ℕ) → IsCandidate q → fewest < 256
    found q is =
        let owned : owned_beside sockets cores app q ≤ length cores = count_below-le _ _ in
        omega (arith, l.least q is (below q is.inside), owned, few)

    before_others : (place q : ℕ) → place < set_size → has_bit there place ≡ true → ((p : ℕ) → place < p → p < set_size → has_bit there p ≡ false) → IsCandidate q
        → (q ≡ place) ⊎ ((owned_beside sockets cores app place < owned_beside sockets cores app q) ⊎ ((owned_beside sockets cores app place ≡ owned_beside sockets cores app q) × (q < place)))
    before_others place q low on last is =
        let here = free place low on in
        let fewer = l.least q is (below q is.inside) in
        let fewest_is = l.own (found q is) in
        let same = all q is in
        let ahead = l.last q is (below q is.inside) in
        grind (arith, nat_tests, fewer, fewest_is, same, ahead, last q, rise place q, is.inside, few, here)

    pub best-next : (next : Option ℕ) → MatchOption next ((p : ℕ) → p < set_size → has_bit there p ≡ false)
        (λ q. (q < set_size) × ((has_bit there q ≡ true) × ((p : ℕ) → q < p → p < set_size → has_bit there p ≡ false)))
        → NextToAsk sockets cores app (length cores) next
    best-next None none = λ q inside own.
        let off : (p : ℕ) → IsCandidate p → slice_index sockets p ≡ best → ⊥ = λ p is on. false≢true (sym (none p (omega (arith, is.inside, few))) ∙ all p is on) in
        elim (cases_Bool (is_asked (holder_at cores q))) [
          | inl asked ↦ asked
          | inr left ↦ absurd (l.some (found q (record { inside = inside; is_own = own; is_left = left })) off)
        ]
    best-next (Some q) some =
        let here = (free q some.0 some.1.0).0 in
        record {
          inside = here.inside;
          is_own = here.is_own;
          is_left = here.is_left;
          first = λ other inside own off. before_others q other some.0 some.1.0 some.1.1 (record { inside = inside; is_own = own; is_left = off });
        }
