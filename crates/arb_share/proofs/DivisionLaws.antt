-- Even division has exactly one answer.
use Rattle.std.proofs.Common.{◌≡◌, ℕ, ◌+◌, ◌<◌, ◌≤◌, Option, Some, None, List, [], ◌∷◌, ◌&&◌, nat_lt, length, get_or, sum, zero, suc, set, replicate, ◌⊎◌, inl, inr, arith, sym, ◌∙◌, add-one}
use Rattle.std.proofs.lemmas.List.{get_or-set_same, get_or-set_other, length-set, get_or_past, length-replicate}
use Rattle.std.proofs.lemmas.List.Folds.{sum_by-replicate}
use Rattle.std.proofs.lemmas.List.Sums.{sum_by-cons, sum_by-set}
use Rattle.std.proofs.lemmas.Bool.{cases_Bool}
use Rattle.std.proofs.lemmas.Bool.Decides.{nat_tests}
use Rattle.std.proofs.lemmas.Grind.{common_steps, same_number_lists}
use Rattle.arb_share.specs.Division.{DividesEvenly, ExactlyOne, next_turn, even_of, still_wants, served_first, dealt_to}

-- a row that is nowhere above another has no greater sum
pub sum-le : (xs ys : List ℕ) → length xs ≡ length ys → ((i : ℕ) → i < length xs → get_or xs i 0 ≤ get_or ys i 0) → sum xs ≤ sum ys
sum-le [] ys e h = omega arith
sum-le (x ∷ xs) [] e h = absurd (omega arith)
sum-le (x ∷ xs) (y ∷ ys) e h =
    omega (arith, sum_by-cons (λ n. n) x xs, sum_by-cons (λ n. n) y ys, sum-le xs ys (omega arith) (λ i lt. h (suc i) (omega arith)), h 0 (omega arith))

pub below_in : (d : List ℕ) (i n : ℕ) → n < get_or d i 0 → i < length d
below_in d i n h = grind (arith, get_or_past)

-- a share grows by one
abbrev pub dealt : List ℕ → ℕ → List ℕ
dealt shares i = set shares i (get_or shares i 0 + 1)

pub dealt_at : (x : List ℕ) (i : ℕ) → i < length x → (k : ℕ) → ((k ≡ i) × (get_or (dealt x i) k 0 ≡ get_or x i 0 + 1)) ⊎ ((k ≡ i → ⊥) × (get_or (dealt x i) k 0 ≡ get_or x k 0))
dealt_at x i within k = grind (arith, get_or-set_same, get_or-set_other)

pub sum-dealt : (x : List ℕ) (i : ℕ) → i < length x → sum (dealt x i) ≡ sum x + 1
sum-dealt x i within = omega (arith, sum_by-set (λ n. n) x i (get_or x i 0 + 1) 0 within)

-- of two even divisions of one supply, none is below the other at an index: it would be above it nowhere
never_below : (d : List ℕ) (s : ℕ) (x y : List ℕ) (i : ℕ) → DividesEvenly d s x → DividesEvenly d s y → get_or x i 0 < get_or y i 0 → ⊥
never_below d s x y i p q less =
    let wants : get_or x i 0 < get_or d i 0 = omega (arith, q.within i) in
    let inside : i < length x = omega (arith, below_in d i _ wants, p.one_each) in
    let no_less : (j : ℕ) → get_or (dealt x i) j 0 ≤ get_or y j 0 =
    λ j. grind (arith, dealt_at x i inside j, p.within j, p.level i j wants, p.smaller_first i j wants, q.level j i, q.smaller_first j i) in
    omega (arith, sum-le (dealt x i) y (length-set x i _ ∙ p.one_each ∙ sym q.one_each) (λ j _. no_less j), sum-dealt x i inside, p.in_full, q.in_full)

-- index k stands behind index i: if it wants more, it has more already, or as much and does not come before i
abbrev pub StandsBehind : (demands shares : List ℕ) (i k : ℕ) → Type 0
StandsBehind demands shares i k = get_or shares k 0 < get_or demands k 0 → (get_or shares i 0 ≤ get_or shares k 0) × (get_or shares k 0 ≡ get_or shares i 0 → i ≤ k)

-- index i is among the first n and wants more, and the others of them stand behind it
pub record IsNextTurn (demands shares : List ℕ) (n i : ℕ) : Type 0 where
  pub within : i < n
  pub wants : get_or shares i 0 < get_or demands i 0
  pub least : (k : ℕ) → k < n → StandsBehind demands shares i k

-- whose turn it is among the first n indexes, or that none of them still wants
abbrev IsTurn : (demands shares : List ℕ) (n : ℕ) → Option ℕ → Type 0
IsTurn demands shares n None = (k : ℕ) → k < n → get_or demands k 0 ≤ get_or shares k 0
IsTurn demands shares n (Some i) = IsNextTurn demands shares n i

turn-more : (d x : List ℕ) (n : ℕ) (turn : Option ℕ) → IsTurn d x n turn → IsTurn d x (n + 1) (served_first d x turn n)
turn-more d x n None none =
    elim (cases_Bool (still_wants d x n)) [
      | inl wants ↦ rw wants (record { within = omega arith; wants = grind (arith, nat_tests); least = λ k less h. grind (arith, none k) })
      | inr met ↦ rw met (λ k less. grind (arith, nat_tests, none k))
    ]
turn-more d x n (Some i) t =
    elim (cases_Bool (still_wants d x n && nat_lt (get_or x n 0) (get_or x i 0))) [
      | inl takes ↦ rw takes (record { within = omega arith; wants = grind (arith, nat_tests); least = λ k less h. grind (arith, nat_tests, t.least k) })
      | inr stays ↦ rw stays (record { within = omega (arith, t.within); wants = t.wants; least = λ k less h. grind (arith, nat_tests, t.within, t.least k) })
    ]

next_turn-is : (d x : List ℕ) (n : ℕ) → IsTurn d x n (next_turn d x n)
unfolding next_turn
next_turn-is d x zero = λ k h. absurd (omega arith)
next_turn-is d x (suc n) = rw (← add-one) (turn-more d x n (next_turn d x n) (next_turn-is d x n))

abbrev pub zeros : ℕ → List ℕ
zeros n = replicate n 0

pub zeros_at : (n k : ℕ) → get_or (zeros n) k 0 ≡ 0
zeros_at n k = grind (arith, common_steps)

-- whoever's turn it is gets the next core
pub DividesEvenly-deal : (d : List ℕ) (s : ℕ) (x : List ℕ) (i : ℕ) → DividesEvenly d s x → IsNextTurn d x (length d) i → DividesEvenly d (s + 1) (dealt x i)
DividesEvenly-deal d s x i p t =
    let in_x : i < length x = omega (arith, t.within, p.one_each) in
    let at = dealt_at x i in_x in
    let long : length (dealt x i) ≡ length d = length-set x i (get_or x i 0 + 1) ∙ p.one_each in
    let inside : (k : ℕ) → get_or (dealt x i) k 0 ≤ get_or d k 0 = λ k. grind (arith, at k, t.wants, p.within k) in
    let in_d : (k : ℕ) → get_or x k 0 < get_or d k 0 → k < length d = λ k h. below_in d k _ h in
    record {
      one_each = long;
      within = inside;
      in_full = omega (arith, sum-le (dealt x i) d long (λ k _. inside k), sum-dealt x i in_x, p.in_full);
      level = λ k j w. grind (arith, at k, at j, in_d k, t.least k, p.level i j t.wants, p.level k j);
      smaller_first = λ k j w e. grind (arith, at k, at j, in_d k, t.least k, p.level i j t.wants, p.level k j, p.smaller_first k j);
    }

-- nothing is handed out of an empty supply
pub DividesEvenly-none : (d : List ℕ) → DividesEvenly d 0 (replicate (length d) 0)
DividesEvenly-none d =
    record {
      one_each = length-replicate (length d) 0;
      within = λ i. omega (arith, zeros_at (length d) i);
      in_full = omega (arith, sum_by-replicate (λ m. m) (length d) 0);
      level = λ i j _. omega (arith, zeros_at (length d) i, zeros_at (length d) j);
      smaller_first = λ i j w e. absurd (omega (arith, e, zeros_at (length d) i, zeros_at (length d) j));
    }

-- a core is dealt, unless all demands are met
dealt_to-is : (d x : List ℕ) (s : ℕ) (turn : Option ℕ) → DividesEvenly d s x → IsTurn d x (length d) turn → DividesEvenly d (s + 1) (dealt_to turn x)
dealt_to-is d x s None p met =
    record {
      one_each = p.one_each;
      within = p.within;
      in_full = omega (arith, p.in_full, sum-le d x (sym p.one_each) met);
      level = p.level;
      smaller_first = p.smaller_first;
    }
dealt_to-is d x s (Some i) p t = DividesEvenly-deal d s x i p t

-- cores that are dealt one by one are divided evenly
pub DividesEvenly-even_of : (d : List ℕ) (s : ℕ) → DividesEvenly d s (even_of d s)
unfolding even_of
DividesEvenly-even_of d zero = DividesEvenly-none d
DividesEvenly-even_of d (suc s) =
    let x = even_of d s in
    rw (← add-one) (dealt_to-is d x s (next_turn d x (length d)) (DividesEvenly-even_of d s) (next_turn-is d x (length d)))

-- and no other row of shares is
pub even_of-only : (d : List ℕ) (s : ℕ) (x : List ℕ) → DividesEvenly d s x → x ≡ even_of d s
even_of-only d s x p =
    let q = DividesEvenly-even_of d s in
    same_number_lists x (even_of d s) (p.one_each ∙ sym q.one_each) (λ k _. grind (arith, never_below d s x (even_of d s) k p q, never_below d s (even_of d s) x k q p))

pub DividesEvenly-ExactlyOne : (d : List ℕ) (s : ℕ) → ExactlyOne (DividesEvenly d s)
DividesEvenly-ExactlyOne d s =
    record { answer = even_of d s; is_answer = DividesEvenly-even_of d s; only_answer = even_of-only d s }
