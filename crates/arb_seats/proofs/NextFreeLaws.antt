-- Laws of the free core that an application takes next: the first one of the socket where it owns the most cores.
use Rattle.arb_seats.proofs.Words.{Cores, ◌≡◌, ℕ, ◌+◌, ◌-◌, ◌<◌, ◌≤◌, List, [], ◌∷◌, length, arith, Option, Some, None, true, false, ◌⊎◌, inl, inr, cases_lt, MatchOption, slice_index, length-append, ◌&&◌, ◌==◌, nat_tests, refl, sym, ◌∙◌, cases_Bool, false≢true}
use Rattle.arb_seats.proofs.Words.{get_or_append_left, get_or-append_right, get_or-replicate, length-replicate, socket_numbers_from, grant_key, grant_keys, next_core, Precedes, key_at, holder_at, IsSetOf}
use Rattle.arb_seats.proofs.Words.{◌^◌, free_count, is_free, count_below-le, count_below-none, next_core-is, get_or-each_at, get_or-map, owned_beside, owned_on, set_size, has_bit}
use Rattle.arb_model.proofs.LeastLaws.{clear_at}
use Rattle.arb_seats.proofs.BitsLaws.{has_bit-zero}
use Rattle.arb_seats.proofs.PositionSetsLaws.{some_position}
use Rattle.arb_seats.proofs.Words.{Machine, socket_by_position}
use Rattle.arb_seats.specs.CoreSets.{AreSets}
use Rattle.arb_config.specs.Limits.{max_sockets}

-- each position is on a socket of the machine
numbers-below : (n : ℕ) (lists : List (List ℕ)) (q : ℕ) → q < length (socket_numbers_from n lists) → slice_index (socket_numbers_from n lists) q < n + length lists
numbers-below n [] q less = absurd (omega arith)
numbers-below n (x ∷ xs) q less = grind (arith, get_or_append_left, get_or-append_right, length-append, length-replicate, get_or-replicate, numbers-below (n + 1) xs (q - length x))

-- socket numbers never fall from one position to the next
numbers-from : (n : ℕ) (lists : List (List ℕ)) (q : ℕ) → q < length (socket_numbers_from n lists) → n ≤ slice_index (socket_numbers_from n lists) q
numbers-from n [] q less = absurd (omega arith)
numbers-from n (x ∷ xs) q less = grind (arith, get_or_append_left, get_or-append_right, length-append, length-replicate, get_or-replicate, numbers-from (n + 1) xs (q - length x))

pub numbers-rise : (n : ℕ) (lists : List (List ℕ)) (p q : ℕ) → p ≤ q → q < length (socket_numbers_from n lists)
    → slice_index (socket_numbers_from n lists) p ≤ slice_index (socket_numbers_from n lists) q
numbers-rise n [] p q le less = absurd (omega arith)
numbers-rise n (x ∷ xs) p q le less =
    grind (arith, numbers-from n (x ∷ xs) q less, get_or_append_left, get_or-append_right, length-append, length-replicate, get_or-replicate, numbers-rise (n + 1) xs (p - length x) (q - length x))

-- each core of a machine is on a socket below the most that there may be
pub on_sockets : {m : Machine} {cores : Cores} {on_socket owned_by asked counts : List ℕ} {free : ℕ} → AreSets m cores on_socket owned_by asked free counts → (end : ℕ) → max_sockets ≤ end
    → (q : ℕ) → q < length cores → slice_index (socket_by_position m) q < end
on_sockets {m = m} s end most q inside =
    omega (arith, numbers-below 0 m.sockets q (omega (arith, inside, s.one_each, s.is_machine.socket_each)), s.is_machine.few_sockets, most)

module _ (sockets : List ℕ) (cores : Cores) (app : ℕ) where
  -- a free core
  abbrev pub IsFree : ℕ → Type 0
  IsFree q = (q < length cores) × (is_free (holder_at cores q) ≡ true)

  -- a word has the free positions of a socket
  abbrev pub AreFreeOn : (socket there : ℕ) → Type 0
  AreFreeOn socket there = (p : ℕ) → p < set_size → has_bit there p ≡ true → IsFree p × (slice_index sockets p ≡ socket)

  -- and all of them
  abbrev pub AreAllOn : (socket there : ℕ) → Type 0
  AreAllOn socket there = (p : ℕ) → IsFree p → slice_index sockets p ≡ socket → has_bit there p ≡ true

  -- the positions that are free and on a socket
  pub free_on : (socket free on there : ℕ) → IsSetOf free (length cores) (λ p. is_free (holder_at cores p)) → IsSetOf on (length cores) (λ p. slice_index sockets p == socket)
      → ((p : ℕ) → has_bit there p ≡ (has_bit free p && has_bit on p)) → AreFreeOn socket there × AreAllOn socket there
  free_on socket free on there are_free are_on is = (
    λ p low here. elim (cases_lt p (length cores)) [
      | inl inside ↦ grind (arith, nat_tests, is p, are_free.inside p inside, are_on.inside p inside)
      | inr past ↦ absurd (grind (arith, nat_tests, is p, are_free.outside p past low))
    ],
    λ p clear same. grind (arith, nat_tests, is p, are_free.inside p clear.0, are_on.inside p clear.0),
  )

  -- the sockets below one were looked at: `best` is the best of them, and `most` one more than the application owns there, or 0 where none has a free core
  pub record LookedAt (socket best most : ℕ) : Type 0 where
    pub some : 0 < most → ((p : ℕ) → IsFree p → slice_index sockets p ≡ best → ⊥) → ⊥
    pub own : 0 < most → owned_on sockets cores app best + 1 ≡ most
    pub least : (q : ℕ) → IsFree q → slice_index sockets q < socket → owned_beside sockets cores app q < most
    pub first : (q : ℕ) → IsFree q → slice_index sockets q < socket → owned_beside sockets cores app q + 1 ≡ most → best ≤ slice_index sockets q

  -- none was looked at
  pub LookedAt-none : LookedAt 0 0 0
  LookedAt-none = record {
    some = λ less. absurd (omega arith);
    own = λ less. absurd (omega arith);
    least = λ q free less. absurd (omega arith);
    first = λ q free less. absurd (omega arith);
  }

  module _ (socket best most there : ℕ) (l : LookedAt socket best most) (free : AreFreeOn socket there) (all : AreAllOn socket there) where
    -- the socket has no free core
    pub LookedAt-empty : there ≡ 0 → LookedAt (socket + 1) best most
    LookedAt-empty none =
        let nobody : (q : ℕ) → IsFree q → slice_index sockets q ≡ socket → ⊥ = λ q is on. grind (arith, nat_tests, all q is on, has_bit-zero q) in
        record {
          some = l.some;
          own = l.own;
          least = λ q is less. grind (arith, l.least q is, nobody q is);
          first = λ q is less even. grind (arith, l.first q is, nobody q is);
        }

    -- the application owns no more there
    pub LookedAt-stays : best ≤ socket → owned_on sockets cores app socket + 1 ≤ most → LookedAt (socket + 1) best most
    LookedAt-stays low fewer =
        record {
          some = l.some;
          own = l.own;
          least = λ q is less. grind (arith, l.least q is);
          first = λ q is less even. grind (arith, l.first q is);
        }

    -- it owns more there
    pub LookedAt-taken : there < 2 ^ set_size → 0 < there → most < owned_on sockets cores app socket + 1 → LookedAt (socket + 1) socket (owned_on sockets cores app socket + 1)
    LookedAt-taken fits some more =
        record {
          some = λ less nobody. some_position there fits some (λ p low. off p low nobody);
          own = λ less. refl;
          least = λ q is less. grind (arith, l.least q is);
          first = λ q is less even. grind (arith, l.least q is);
        }
      where
        off : (p : ℕ) → p < set_size → ((p : ℕ) → IsFree p → slice_index sockets p ≡ socket → ⊥) → has_bit there p ≡ false
        off p low nobody = grind (arith, free p low, nobody p)

  -- the first free position of the best socket of all is the next core
  module _ (best most end there : ℕ) (l : LookedAt end best most) (below : (q : ℕ) → q < length cores → slice_index sockets q < end) (few : length cores ≤ set_size)
      (free : AreFreeOn best there) (all : AreAllOn best there) where
    -- an application takes one free position before another
    abbrev Before : ℕ → ℕ → Type 0
    Before p q = Precedes (grant_key sockets cores app p) p (grant_key sockets cores app q) q

    before_others : (place q : ℕ) → place < set_size → has_bit there place ≡ true → ((p : ℕ) → p < place → has_bit there p ≡ false) → IsFree q → (q ≡ place) ⊎ Before place q
    before_others place q low on first is =
        let here = free place low on in
        let fewer : owned_beside sockets cores app q < most = l.least q is (below q is.0) in
        let most_is : owned_on sockets cores app best + 1 ≡ most = l.own (omega (arith, fewer)) in
        let owned : owned_beside sockets cores app place ≤ length cores = count_below-le _ _ in
        let same = all q is in
        let ahead = l.first q is (below q is.0) in
        grind (arith, nat_tests, fewer, most_is, owned, same, ahead, first q, here)

    best-is : (place : ℕ) → place < set_size → has_bit there place ≡ true → ((p : ℕ) → p < place → has_bit there p ≡ false) → place ≡ next_core sockets cores app
    best-is place low on first =
        let key : (q : ℕ) → q < length cores → key_at (grant_keys sockets cores app) q ≡ grant_key sockets cores app q = λ q h. grind (arith, get_or-each_at) in
        let here = free place low on in
        next_core-is sockets cores app place (record {
          inside = here.0.0;
          is_candidate = grind (arith, get_or-map, here.0.1);
          is_left = clear_at (length cores) place;
          least = grind (arith, get_or-map, before_others place);
        })

    pub best-next_core : (next : Option ℕ) → MatchOption next ((p : ℕ) → 0 ≤ p → p < set_size → has_bit there p ≡ false)
        (λ q. (0 ≤ q) × ((q < set_size) × ((has_bit there q ≡ true) × ((p : ℕ) → 0 ≤ p → p < q → has_bit there p ≡ false))))
        → MatchOption next (free_count cores ≡ 0) (λ position. (position < length cores) × (position ≡ next_core sockets cores app))
    best-next_core None none =
        let off : (p : ℕ) → IsFree p → slice_index sockets p ≡ best → ⊥ = λ p is on. false≢true (sym (none p (omega arith) (omega (arith, is.0, few))) ∙ all p is on) in
        let nobody : (q : ℕ) → q < length cores → is_free (holder_at cores q) ≡ false = λ q inside. elim (cases_Bool (is_free (holder_at cores q))) [
          | inl is ↦ absurd (l.some (omega (arith, l.least q (inside, is) (below q inside))) off)
          | inr not ↦ not
        ] in
        count_below-none _ _ nobody
    best-next_core (Some q) some = ((free q some.1.0 some.1.1.0).0.0, best-is q some.1.0 some.1.1.0 (λ p less. some.1.1.1 p (omega arith) less))
