-- What stands at the front of a text, byte by byte.
use Rattle.std.proofs.Common.{◌≡◌, ℕ, ◌+◌, ◌-◌, ◌*◌, ◌%◌, ◌<◌, ◌≤◌, ◌⊎◌, ◌≢◌, List, [], ◌∷◌, Some, true, inl, inr, length, get_or, take, drop, refl, ◌∙◌, arith, tests, take_all}
use Rattle.std.specs.List.{list_all}
use Rattle.std.specs.Char.{is_ascii_digit}
use Rattle.std.proofs.lemmas.Bool.Decides.{nat_tests}
use Rattle.std.specs.Str.Parse.{digits_value}
use Rattle.std.specs.Char.{digit_value}
use Rattle.std.proofs.lemmas.Int.Digits.{digits_value_more}
use Rattle.std.proofs.lemmas.List.Folds.{list_all_more}
use Rattle.arb_share.specs.Text.{number_of}
use Rattle.arb_script.specs.Usual.{BeginsWithNumber}

-- a byte that is a digit, by its value
is_digit : (byte : ℕ) → 48 ≤ byte → byte < 58 → is_ascii_digit byte ≡ true
is_digit byte low high = grind (arith, tests)

number_one : (most byte : ℕ) → 48 ≤ byte → byte < 58 → byte - 48 ≤ most → number_of most (byte ∷ []) ≡ Some (byte - 48)
number_one most byte low high within = grind (arith, nat_tests)

number_two : (most tens ones : ℕ) → 49 ≤ tens → tens < 58 → 48 ≤ ones → ones < 58 → 10 * (tens - 48) + (ones - 48) ≤ most → number_of most (tens ∷ ones ∷ []) ≡ Some (10 * (tens - 48) + (ones - 48))
number_two most tens ones some few low high within = grind (arith, nat_tests)

number_three : (most hundreds tens ones : ℕ) → 49 ≤ hundreds → hundreds < 58 → 48 ≤ tens → tens < 58 → 48 ≤ ones → ones < 58 → 100 * (hundreds - 48) + 10 * (tens - 48) + (ones - 48) ≤ most
    → number_of most (hundreds ∷ tens ∷ ones ∷ []) ≡ Some (100 * (hundreds - 48) + 10 * (tens - 48) + (ones - 48))
number_three most hundreds tens ones some few low high least last within = grind (arith, nat_tests)

-- what is tested of the first three bytes
abbrev pub IsSmall : (first second third behind : ℕ) → Type 0
IsSmall first second third behind = ((first + 208) % 256 < 10) × ((second ≡ behind) ⊎ (((first + 208) % 256 ≢ 0) × ((48 ≤ second) × ((second < 58) × (third ≡ behind)))))

-- one digit
pub begins_one : (text after : List ℕ) (value behind : ℕ) → 3 ≤ length text → get_or text 0 0 < 256 → IsSmall (get_or text 0 0) (get_or text 1 0) (get_or text 2 0) behind → value ≡ (get_or text 0 0 + 208) % 256 → get_or text 1 0 ≡ behind → after ≡ take (length text - 2) (drop 2 text) → BeginsWithNumber 99 text value behind after
begins_one [] after value behind long byte small is next back = absurd (omega arith)
begins_one (first ∷ []) after value behind long byte small is next back = absurd (omega arith)
begins_one (first ∷ second ∷ text) after value behind long byte small is next back =
    let digit : (first + 208) % 256 < 10 = small.0 in
    let low : 48 ≤ first = omega arith in
    let same : value ≡ first - 48 = omega arith in
    let rest : after ≡ text = grind (arith, take_all) in
    record {
      word = first ∷ [];
      is = rw (rest, ← next) refl;
      digits = grind (arith, tests, is_digit);
      writes = rw same (number_one 99 first low (omega arith) (omega arith));
    }

-- two digits
pub begins_two : (text after : List ℕ) (value behind : ℕ) → 3 ≤ length text → get_or text 0 0 < 256 → IsSmall (get_or text 0 0) (get_or text 1 0) (get_or text 2 0) behind → value ≡ 10 * ((get_or text 0 0 + 208) % 256) + (get_or text 1 0 - 48) → get_or text 1 0 ≢ behind → after ≡ take (length text - 3) (drop 3 text) → BeginsWithNumber 99 text value behind after
begins_two [] after value behind long byte small is next back = absurd (omega arith)
begins_two (first ∷ []) after value behind long byte small is next back = absurd (omega arith)
begins_two (first ∷ second ∷ []) after value behind long byte small is next back = absurd (omega arith)
begins_two (first ∷ second ∷ third ∷ text) after value behind long byte (digit, inl e) is next back = absurd (next e)
begins_two (first ∷ second ∷ third ∷ text) after value behind long byte (digit, inr more) is next back =
    let some : (first + 208) % 256 ≢ 0 = more.0 in
    let ones : 48 ≤ second = more.1.0 in
    let least : second < 58 = more.1.1.0 in
    let low : 49 ≤ first = omega arith in
    let same : value ≡ 10 * (first - 48) + (second - 48) = omega arith in
    let rest : after ≡ text = grind (arith, take_all) in
    record {
      word = first ∷ second ∷ [];
      is = rw (rest, ← more.1.1.1) refl;
      digits = grind (arith, tests, is_digit);
      writes = rw same (number_two 99 first second low (omega arith) ones least (omega arith));
    }

-- a digit, where no test of it wraps
abbrev pub IsDigit : ℕ → Type 0
IsDigit byte = (48 ≤ byte) × (byte < 58)

pub entry_one : (text : List ℕ) → 2 ≤ length text → IsDigit (get_or text 0 0) → BeginsWithNumber 255 text (get_or text 0 0 - 48) (get_or text 1 0) (take (length text - 2) (drop 2 text))
entry_one [] long one = absurd (omega arith)
entry_one (ones ∷ []) long one = absurd (omega arith)
entry_one (ones ∷ behind ∷ text) long one =
    record {
      word = ones ∷ [];
      is = grind (arith, take_all);
      digits = grind (arith, tests, is_digit);
      writes = number_one 255 ones one.0 one.1 (omega arith);
    }

pub entry_two : (text : List ℕ) → 3 ≤ length text → (49 ≤ get_or text 0 0) × (get_or text 0 0 < 58) → IsDigit (get_or text 1 0)
    → BeginsWithNumber 255 text (10 * (get_or text 0 0 - 48) + (get_or text 1 0 - 48)) (get_or text 2 0) (take (length text - 3) (drop 3 text))
entry_two [] long ten one = absurd (omega arith)
entry_two (tens ∷ []) long ten one = absurd (omega arith)
entry_two (tens ∷ ones ∷ []) long ten one = absurd (omega arith)
entry_two (tens ∷ ones ∷ behind ∷ text) long ten one =
    record {
      word = tens ∷ ones ∷ [];
      is = grind (arith, take_all);
      digits = grind (arith, tests, is_digit);
      writes = number_two 255 tens ones ten.0 ten.1 one.0 one.1 (omega arith);
    }

pub entry_three : (text : List ℕ) → 4 ≤ length text → get_or text 0 0 ≡ 49 → IsDigit (get_or text 1 0) → IsDigit (get_or text 2 0) → 100 + 10 * (get_or text 1 0 - 48) + (get_or text 2 0 - 48) ≤ 128
    → BeginsWithNumber 255 text (100 + 10 * (get_or text 1 0 - 48) + (get_or text 2 0 - 48)) (get_or text 3 0) (take (length text - 4) (drop 4 text))
entry_three [] long hundred ten one small = absurd (omega arith)
entry_three (hundreds ∷ []) long hundred ten one small = absurd (omega arith)
entry_three (hundreds ∷ tens ∷ []) long hundred ten one small = absurd (omega arith)
entry_three (hundreds ∷ tens ∷ ones ∷ []) long hundred ten one small = absurd (omega arith)
entry_three (hundreds ∷ tens ∷ ones ∷ behind ∷ text) long hundred ten one small =
    let value : 100 * (hundreds - 48) + 10 * (tens - 48) + (ones - 48) ≡ 100 + 10 * (tens - 48) + (ones - 48) = omega arith in
    record {
      word = hundreds ∷ tens ∷ ones ∷ [];
      is = grind (arith, take_all);
      digits = grind (arith, tests, is_digit);
      writes = rw (← value) (number_three 255 hundreds tens ones (omega arith) (omega arith) ten.0 ten.1 one.0 one.1 (omega arith));
    }

-- a number of digits, read up to an index
pub record ReadsDigits (text : List ℕ) (index value : ℕ) : Type 0 where
  pub digits : list_all is_ascii_digit (take index text) ≡ true
  pub value_of : value ≡ digits_value 10 (take index text)

digit_of : (byte : ℕ) → is_ascii_digit byte ≡ true → digit_value byte ≡ byte - 48
digit_of byte digit = grind (arith, tests)

pub ReadsDigits-next : (text : List ℕ) (index value : ℕ) → ReadsDigits text index value → index < length text → is_ascii_digit (get_or text index 0) ≡ true → ReadsDigits text (index + 1) (10 * value + (get_or text index 0 - 48))
ReadsDigits-next text index value r inside digit =
    record {
      digits = list_all_more is_ascii_digit text index 0 inside ∙ rw (r.digits, digit) refl;
      value_of = omega (arith, r.value_of, digits_value_more 10 text index inside, digit_of (get_or text index 0) digit);
    }
