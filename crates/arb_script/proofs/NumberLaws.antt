-- A number that was printed in decimal, read again.
use Rattle.std.proofs.Common.{◌≡◌, ℕ, ◌<◌, ◌≤◌, ◌^◌, Some, true, false, length, get_or, arith}
use Rattle.std.specs.Prelude.{decimal}
use Rattle.std.specs.List.{list_all}
use Rattle.std.specs.Char.{is_ascii_digit}
use Rattle.std.proofs.lemmas.Bool.Decides.{nat_tests}
use Rattle.std.proofs.lemmas.Fmt.{digits_decimal, digits_value-decimal, decimal_nonempty, decimal_digit, first_decimal, length-decimal-le}
use Rattle.std.proofs.lemmas.Str.Parse.{digit_at}
use Rattle.arb_share.specs.Text.{has_leading_zero, number_of}
use Rattle.arb_share.proofs.TextLaws.{digits}

pub decimal-digits : (n : ℕ) → n < 2 ^ 64 → list_all is_ascii_digit (decimal n) ≡ true
decimal-digits n h = digits_decimal digits n h

-- the first byte of a number
pub decimal-first : (n : ℕ) → n < 2 ^ 64 → (48 ≤ get_or (decimal n) 0 0) × (get_or (decimal n) 0 0 ≤ 57)
decimal-first n h = digit_at (decimal n) 0 (digits.to (decimal n) (decimal-digits n h)) (decimal_nonempty n h)

decimal-leading : (n : ℕ) → n < 2 ^ 64 → has_leading_zero (decimal n) ≡ false
decimal-leading n h = grind (arith, nat_tests, first_decimal n, decimal_digit n)

-- a number in decimal is read as that number
pub number_of-decimal : (most n : ℕ) → n ≤ most → n < 2 ^ 64 → number_of most (decimal n) ≡ Some n
number_of-decimal most n within h =
    grind (arith, nat_tests, decimal-digits n h, decimal_nonempty n h, decimal-leading n h, digits_value-decimal digits n h)

-- a number below 256 has at most three digits, any other at most twenty
pub length-decimal-small : (n : ℕ) → n < 256 → length (decimal n) ≤ 3
length-decimal-small n h = length-decimal-le 3 n (omega arith) (omega arith) (omega arith)

pub length-decimal-any : (n : ℕ) → n < 2 ^ 64 → length (decimal n) ≤ 20
length-decimal-any n h = length-decimal-le 20 n (omega arith) (omega arith) h
