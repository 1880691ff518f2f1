-- Laws of words as sets of positions.
use Rattle.arb_seats.proofs.Words.{◌≡◌, ℕ, ◌+◌, ◌-◌, ◌*◌, ◌/◌, ◌<◌, ◌≤◌, zero, suc, map, arith, ap, sym}
use Rattle.arb_seats.proofs.Words.{◌∙◌, inl, inr, cases_lt, Bool, Option, true, false, not, sum, ◌==◌, if◌then◌else◌, MatchOption, range_with_len}
use Rattle.arb_seats.proofs.Words.{None, Some, ◌&&◌, nat_le, nat_tests}
use Rattle.arb_seats.proofs.Words.{IsSetOf, set_size, count_below}
use Rattle.arb_seats.proofs.LoopLaws.{FirstFrom, positions_from}
use Rattle.std.specs.Prelude.{◌^◌, ◌%◌, count_ones}
use Rattle.std.specs.Int.{bit_at}
use Rattle.std.specs.Int.Count.{ones-ones}
use Rattle.std.proofs.Math.Arith.{mod-mul}
use Rattle.std.proofs.Math.Nat.{mod-eq_of_lt, mod-lt}
use Rattle.std.proofs.lemmas.Nat.{ones_cat, pow_pos}
use Rattle.std.proofs.lemmas.Nat.Bits.{bit_at-lt, bit_at_above, same_from_bits_below}
use Rattle.std.proofs.lemmas.List.FromFn.{sum_by-map-range_with_len_more}
use Rattle.arb_seats.specs.Bits.{has_bit}
use Rattle.arb_seats.proofs.BitsLaws.{has_bit-shifted, has_bit-zero}
use Rattle.arb_model.proofs.CountLaws.{count_below-one_less, count_below-same}

-- one more bit of a word
low_more : (word n : ℕ) → word % 2 ^ suc n ≡ bit_at word n * 2 ^ n + word % 2 ^ n
low_more word n = grind (arith, pow_pos, mod-mul)

-- the last place of a word is the highest power in it
pub has_bit-top : (word n : ℕ) → 2 ^ n ≤ word → word < 2 ^ suc n → has_bit word n ≡ true
has_bit-top word n has less = grind (arith, low_more word n, mod-eq_of_lt less, mod-lt, pow_pos, bit_at-lt word n)

-- the bits below n, counted
ones_low : (word n : ℕ) → count_ones (word % 2 ^ n) ≡ count_below (has_bit word) n
ones_low word zero = grind (arith, ones-ones 0)
ones_low word (suc n) = grind (arith, bit_at-lt, low_more, ones_cat, pow_pos, mod-lt, ones-ones 0, ones-ones 1, ones_low word n)

-- bits that are clear add nothing
low_same : (word n k : ℕ) → ((p : ℕ) → n ≤ p → p < n + k → has_bit word p ≡ false) → word % 2 ^ (n + k) ≡ word % 2 ^ n
low_same word n zero h = grind arith
low_same word n (suc k) h = grind (arith, bit_at-lt, low_more word (n + k), low_same word n k (λ p a b. h p a (omega arith)))

-- how many places a set has
pub set-count : (word n : ℕ) (passes : ℕ → Bool) → word < 2 ^ set_size → n ≤ set_size → IsSetOf word n passes → count_ones word ≡ count_below passes n
set-count word n passes fits few s = grind (arith, mod-eq_of_lt fits, low_same word n (set_size - n), ones_low, count_below-same)

-- no set has a position past the last
pub none_past : (word p : ℕ) → word < 2 ^ set_size → set_size ≤ p → has_bit word p ≡ false
none_past word p fits past = ap (λ (b : ℕ). b == 1) (bit_at_above word set_size p fits past)

-- a set that isn't 0 has a position
pub some_position : (word : ℕ) → word < 2 ^ set_size → 0 < word → ((p : ℕ) → p < set_size → has_bit word p ≡ false) → ⊥
some_position word fits some none =
    let same : word ≡ 0 = same_from_bits_below set_size word 0 fits (pow_pos set_size) (λ p low. grind (arith, none p low, bit_at-lt, has_bit-zero p)) in
    omega arith

-- a set that has one position more
pub set-one_more : (less more place : ℕ) → less < 2 ^ set_size → more < 2 ^ set_size → place < set_size → has_bit less place ≡ false → has_bit more place ≡ true
    → ((p : ℕ) → p < set_size → (p ≡ place → ⊥) → has_bit less p ≡ has_bit more p) → count_ones less + 1 ≡ count_ones more
set-one_more less more place few many inside off on same =
    let all : (word : ℕ) → word < 2 ^ set_size → count_ones word ≡ count_below (has_bit word) set_size = λ word fits. set-count word set_size (has_bit word) fits (omega arith) (grind arith) in
    let same_past : (p : ℕ) → (p ≡ place → ⊥) → has_bit less p ≡ has_bit more p =
    λ p ne. elim (cases_lt p set_size) [ inl low ↦ same p low ne | inr past ↦ none_past less p few past ∙ sym (none_past more p many past) ] in
    omega (arith, all less few, all more many, count_below-one_less (has_bit more) (has_bit less) place set_size inside on off same_past)

-- a mark that changes a set finds its position marked otherwise
pub marked_anew : (before after place : ℕ) (on : Bool) → before < 2 ^ set_size → after < 2 ^ set_size → (after ≡ before → ⊥)
    → ((p : ℕ) → p < set_size → has_bit after p ≡ (if p == place then on else has_bit before p)) → has_bit before place ≡ not on
marked_anew before after place on few many differs marked =
    let same : has_bit before place ≡ on → after ≡ before = λ is. same_from_bits_below set_size after before many few (λ p inside. grind (arith, marked p inside, is)) in
    grind (arith, same)

-- the sum of the powers at the places that pass
low_sum : (word n : ℕ) (passes : ℕ → Bool) → ((p : ℕ) → p < n → has_bit word p ≡ passes p) → word % 2 ^ n ≡ sum (map (λ p. if passes p then 2 ^ p else 0) (range_with_len 0 n))
low_sum word zero passes h = omega arith
low_sum word (suc n) passes h =
    let power : ℕ → ℕ = λ (p : ℕ). if passes p then 2 ^ p else 0 in
    grind (arith, low_more word n, bit_at-lt word n, h n, sum_by-map-range_with_len_more (λ x. x) power 0 n n (omega arith), low_sum word n passes (λ p lt. h p (omega arith)))

-- a part of a set, the places from one on, as the sum of its bits
pub set-part : (word n from size : ℕ) (passes : ℕ → Bool) → from + size ≤ set_size → ((p : ℕ) → n ≤ p → passes p ≡ false) → IsSetOf word n passes
    → word / 2 ^ from % 2 ^ size ≡ sum (map (λ p. if passes (from + p) then 2 ^ p else 0) (range_with_len 0 size))
set-part word n from size passes few none s =
    low_sum (word / 2 ^ from) size (λ p. passes (from + p)) (λ p less. grind (arith, has_bit-shifted word from p))

-- the set of no place
pub set-none : (n : ℕ) (passes : ℕ → Bool) → ((p : ℕ) → p < n → passes p ≡ false) → IsSetOf 0 n passes
set-none n passes none = grind arith

-- a test may be replaced by an equal one
pub set-same : (word n m : ℕ) (f g : ℕ → Bool) → n ≡ m → ((p : ℕ) → p < n → f p ≡ g p) → IsSetOf word n f → IsSetOf word m g
set-same word n m f g e same s = grind (arith)

-- the first position of a set, if it has any
abbrev pub FirstAt : (word : ℕ) → Option ℕ → Type 0
FirstAt word next =
    MatchOption next ((p : ℕ) → 0 ≤ p → p < set_size → has_bit word p ≡ false)
    (λ q. (0 ≤ q) × ((q < set_size) × ((has_bit word q ≡ true) × ((p : ℕ) → 0 ≤ p → p < q → has_bit word p ≡ false))))

-- fewer positions are left once the first one is taken out
pub taken_smaller : (place rest after : ℕ) (next : Option ℕ) → FirstAt rest (Some place)
    → ((q : ℕ) → has_bit rest q ≡ true → ((p : ℕ) → p < q → has_bit rest p ≡ false) → (p : ℕ) → has_bit after p ≡ (if p == q then false else has_bit rest p))
    → FirstAt after next → positions_from next < positions_from (Some place)
taken_smaller place rest after None first without none = omega arith
taken_smaller place rest after (Some q) first without found =
    let gone = without place first.1.1.0 (λ p less. first.1.1.1 p (omega arith) less) q in
    let later : place < q = elim (cases_lt place q) [ inl less ↦ less | inr le ↦ absurd (grind (arith, nat_tests, gone, found.1.1.0, first.1.1.1 q)) ] in
    omega (arith, later, found.1.0)

-- what is left of the positions that pass a test, once those before one were taken out
abbrev pub AreFrom : (test : ℕ → Bool) (from rest : ℕ) → Type 0
AreFrom test from rest = (p : ℕ) → p < set_size → has_bit rest p ≡ (nat_le from p && test p)

-- a set that loses its first positions, one after another
module _ (test : ℕ → Bool) (n : ℕ) (few : n ≤ set_size) (past : (p : ℕ) → n ≤ p → test p ≡ false) where
  -- at first it has all
  pub AreFrom-all : (rest : ℕ) → IsSetOf rest n test → AreFrom test 0 rest
  AreFrom-all rest s = λ p low. elim (cases_lt p n) [ inl inside ↦ grind (arith, nat_tests, s.inside p inside) | inr after ↦ grind (arith, nat_tests, s.outside p after low, past p after) ]

  -- its first one is the next that passes
  pub AreFrom-next : (from rest : ℕ) (next : Option ℕ) → AreFrom test from rest → FirstAt rest next → FirstFrom n from test next × MatchOption next (Unit {0}) (λ q. AreFrom test q rest)
  AreFrom-next from rest None left none = (λ p low. elim (cases_lt p n) [ inl inside ↦ grind (arith, nat_tests, left p (omega arith), none p) | inr after ↦ past p after ], tt)
  AreFrom-next from rest (Some q) left first =
      let here : has_bit rest q ≡ true = first.1.1.0 in
      let passes : (from ≤ q) × (test q ≡ true) = grind (arith, nat_tests, left q first.1.0, here) in
      let inside : q < n = elim (cases_lt q n) [ inl less ↦ less | inr after ↦ absurd (grind (arith, nat_tests, past q after, passes.1)) ] in
      let before : (p : ℕ) → from ≤ p → p < q → test p ≡ false = λ p low less. grind (arith, nat_tests, left p (omega (arith, first.1.0)), first.1.1.1 p) in
      ((passes.0, (inside, (passes.1, before))), λ p low. grind (arith, nat_tests, left p low, first.1.1.1 p, passes))

  -- without it
  AreFrom-gone : (from rest after : ℕ) → AreFrom test from rest → ((p : ℕ) → has_bit after p ≡ (if p == from then false else has_bit rest p)) → AreFrom test (from + 1) after
  AreFrom-gone from rest after left gone = λ p low. grind (arith, nat_tests, left p low, gone p)

  -- the step of a loop over it, which takes the first one out
  pub AreFrom-step : (place rest after : ℕ) (next : Option ℕ) → FirstAt rest (Some place) → AreFrom test place rest
      → ((q : ℕ) → has_bit rest q ≡ true → ((p : ℕ) → p < q → has_bit rest p ≡ false) → (p : ℕ) → has_bit after p ≡ (if p == q then false else has_bit rest p))
      → FirstAt after next → FirstFrom n (place + 1) test next × MatchOption next (Unit {0}) (λ q. AreFrom test q after)
  AreFrom-step place rest after next first left without found =
      let gone = without place first.1.1.0 (λ p less. first.1.1.1 p (omega arith) less) in
      AreFrom-next (place + 1) after next (AreFrom-gone place rest after left gone) found
