-- Laws of words as sets of places: a place put in or taken out, the first place, and the word of a test.
use Rattle.arb_seats.proofs.Words.{◌≡◌, ℕ, ◌+◌, ◌/◌, ◌-◌, ◌<◌, ◌≤◌, zero, suc, false, true, arith, ap, sym, ◌∙◌, ◌==◌, if◌then◌else◌, inl, inr, cases_lt, nat_tests, eqb-true, false≢true, Option, MatchOption, word_size}
use Rattle.std.specs.Prelude.{◌^◌}
use Rattle.std.specs.Int.{bit_at}
use Rattle.std.specs.Int.Bits.{bit_and}
use Rattle.std.proofs.lemmas.Nat.Bits.{bit_at_and, bit_at-lt}
use Rattle.std.proofs.lemmas.Nat.{shr-shr}
use Rattle.arb_seats.specs.Bits.{has_bit}

-- the first place of a word, if it has any
abbrev pub FirstOf : ℕ → Option ℕ → Type 0
FirstOf word next =
    MatchOption next ((p : ℕ) → has_bit word p ≡ false) (λ q. (q < word_size) × ((has_bit word q ≡ true) × ((p : ℕ) → p < q → has_bit word p ≡ false)))

-- no place is in the word 0
pub has_bit-zero : (p : ℕ) → has_bit 0 p ≡ false
has_bit-zero p = grind arith

-- the places of a word from one on, as the places of the shifted word
pub has_bit-shifted : (n from i : ℕ) → has_bit (n / 2 ^ from) i ≡ has_bit n (from + i)
has_bit-shifted n from i = grind (arith, shr-shr)

pub has_bit-from : (n from p : ℕ) → from ≤ p → has_bit (n / 2 ^ from) (p - from) ≡ has_bit n p
has_bit-from n from p h = grind (arith, has_bit-shifted)

-- the places of a word but the first are those of its half
bit_of_half : (n i : ℕ) → bit_at n (suc i) ≡ bit_at (n / 2) i
bit_of_half n i = grind (arith, shr-shr n 1 i)

-- from a word's first place on, the number before the word has the same places but that one
pub bits_before : (q n p : ℕ) → bit_at n q ≡ 1 → ((i : ℕ) → i < q → bit_at n i ≡ 0) → q ≤ p → bit_at (n - 1) p ≡ (if p == q then 0 else bit_at n p)
bits_before zero n zero one none le = omega arith
bits_before zero n (suc p) one none le =
    let half : (n - 1) / 2 ≡ n / 2 = omega arith in
    let same : bit_at (n - 1) (suc p) ≡ bit_at n (suc p) = bit_of_half (n - 1) p ∙ ap (λ (m : ℕ). bit_at m p) half ∙ sym (bit_of_half n p) in
    grind (arith, nat_tests, same)
bits_before (suc q) n zero one none le = absurd (omega arith)
bits_before (suc q) n (suc p) one none le =
    let even : n / 2 - 1 ≡ (n - 1) / 2 = omega (arith, none 0 (omega arith)) in
    let before = bits_before q (n / 2) p (sym (bit_of_half n q) ∙ one) (λ i less. sym (bit_of_half n i) ∙ none (suc i) (omega arith)) (omega arith) in
    grind (arith, nat_tests, bit_of_half, before, even)

-- a word without its first place
pub first_cleared : (n q : ℕ) → has_bit n q ≡ true → ((p : ℕ) → p < q → has_bit n p ≡ false) → (p : ℕ) → has_bit (bit_and n (n - 1)) p ≡ (if p == q then false else has_bit n p)
first_cleared n q on none p =
    let one : bit_at n q ≡ 1 = eqb-true (bit_at n q) 1 on in
    let zeroes : (i : ℕ) → i < q → bit_at n i ≡ 0 = λ i less. grind (arith, nat_tests, none i less, bit_at-lt n i) in
    elim (cases_lt p q) [
      | inl low ↦ grind (arith, nat_tests, bit_at_and n (n - 1) p, zeroes p low)
      | inr high ↦ grind (arith, nat_tests, bit_at_and n (n - 1) p, bits_before q n p one zeroes high, bit_at-lt n p)
    ]

-- a word with a place isn't 0
pub some_place : (n q : ℕ) → has_bit n q ≡ true → 0 < n
some_place zero q on = absurd (grind (arith, has_bit-zero q, false≢true))
some_place (suc n) q on = omega arith
