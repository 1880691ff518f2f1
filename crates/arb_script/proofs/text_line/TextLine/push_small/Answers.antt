use Rattle.std.proofs.Common.{◌≡◌, ℕ, ◌+◌, ◌/◌, ◌%◌, ◌<◌, ◌≤◌, [], ◌∷◌, decimal, refl, arith, append_assoc}
use Rattle.std.proofs.lemmas.Fmt.{decimal_digit, decimal_step}
use Rattle.arb_script.proofs.text_line.TextLine.push_small.Goals as goal

two_digits : (n : ℕ) → 10 ≤ n → n < 100 → decimal n ≡ (48 + n / 10) ∷ (48 + n % 10) ∷ []
two_digits n low high = rw (decimal_step n low (omega arith), decimal_digit (n / 10) (omega arith)) refl

three_digits : (n : ℕ) → 100 ≤ n → n < 1000 → decimal n ≡ (48 + n / 100) ∷ (48 + n / 10 % 10) ∷ (48 + n % 10) ∷ []
three_digits n low high =
    let hundreds : n / 10 / 10 ≡ n / 100 = omega arith in
    rw (decimal_step n (omega arith) (omega arith), decimal_step (n / 10) (omega arith) (omega arith), decimal_digit (n / 10 / 10) (omega arith), hundreds) refl

-- one digit
pub returns-then-number-lt10-clause-text : goal.returns-then-number-lt10-clause-text
returns-then-number-lt10-clause-text c = rw (c.push_digit.ensures.text, decimal_digit c.args.number (omega arith)) refl

-- two were appended in turn
pub returns-then-number-lt100-clause-text : goal.returns-then-number-lt100-clause-text
returns-then-number-lt100-clause-text c =
    rw (c.push_digit-then-number-lt100-2.ensures.text, c.push_digit-then-number-lt100.ensures.text, two_digits c.args.number (omega arith) (omega arith)) (simp append_assoc)

-- three were
pub returns-clause-text : goal.returns-clause-text
returns-clause-text c =
    rw (c.push_digit-4.ensures.text, c.push_digit-3.ensures.text, c.push_digit-2.ensures.text, three_digits c.args.number (omega arith) (omega (arith, c.ranges.number.fits))) (simp append_assoc)
