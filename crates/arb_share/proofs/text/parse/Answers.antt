use Rattle.std.proofs.Common.{◌≡◌, ℕ, ◌<◌, ◌^◌, List, None, Err, true, length, arith, rules, tests, subst}
use Rattle.std.specs.List.{list_all}
use Rattle.std.specs.Char.{is_ascii_digit}
use Rattle.std.specs.Str.{IsUtf8}
use Rattle.std.specs.Str.Parse.{digits_value, IsNumeral, ParsesUnsigned, without_leading_plus}
use Rattle.std.proofs.lemmas.Str.{IsUtf8-from_ascii}
use Rattle.std.proofs.lemmas.Fmt.{IsAscii-from_digits}
use Rattle.std.proofs.lemmas.Str.Parse.{parse_digits}
use Rattle.arb_share.specs.Text.{is_number, number_of}
use Rattle.arb_share.proofs.TextLaws.{digits}
use Rattle.arb_share.proofs.text.parse.Goals as goal

-- a number has digits alone, and some
numeral : (word : List ℕ) → is_number word ≡ true → (list_all is_ascii_digit word ≡ true) × (0 < length word)
numeral word h = grind (arith, tests)

is_text : (word : List ℕ) → is_number word ≡ true → IsUtf8 word
is_text word h = IsUtf8-from_ascii word (IsAscii-from_digits word (digits.to word (numeral word h).0))

too_long : (most : ℕ) (word text : List ℕ) → is_number word ≡ true → text ≡ word → most < 2 ^ 64 → ¬ (IsNumeral 10 (without_leading_plus text) × (digits_value 10 (without_leading_plus text) < 2 ^ 64)) → None ≡ number_of most word
too_long most word text h e fits refused =
    let missed = parse_digits digits {E = ℕ} 64 word (Err 0) (subst (λ (bs : List ℕ). ParsesUnsigned {E = ℕ} 64 10 bs (Err 0)) e refused) (numeral word h).0 in
    grind (arith, tests, missed, numeral word h)

pub returns-in_default : goal.returns-in_default
returns-in_default c =
    let number : is_number c.args.word.now ≡ true = search (rules, tests) in
    absurd (c.in_default.ensures.cases.0 (is_text c.args.word.now number))

pub returns-in_default-parse : goal.returns-in_default-parse
returns-in_default-parse c =
    let number : is_number c.args.word.now ≡ true = search (rules, tests) in
    too_long c.args.most c.args.word.now c.in-Ok.text.now number c.in-Ok.ensures.cases.0 c.ranges.most.fits (c.in_default-parse.ensures {u = tt}).value.0
