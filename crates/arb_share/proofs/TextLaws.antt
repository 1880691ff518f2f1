-- Cutting a text into its lines, and a line into its words, from the front.
use Rattle.std.proofs.Common.{◌≡◌, ℕ, ◌+◌, ◌-◌, ◌<◌, ◌≤◌, List, [], ◌∷◌, Option, Some, None, Bool, true, false, ◌==◌, not, nat_lt, cond, length, take, drop, filter, map, unwrap_or, suc, refl, ap, ◌∙◌, arith, rules, add-one, drop-drop, take_all}
use Rattle.std.specs.List.{list_all, position_or_len, slice_split, onto_first}
use Rattle.std.proofs.lemmas.Bool.Decides.{nat_tests}
use Rattle.std.proofs.lemmas.Grind.{common_steps}
use Rattle.std.proofs.lemmas.List.Sums.{prefix_len-le-length}
use Rattle.std.specs.Char.{is_ascii_digit}
use Rattle.std.specs.Str.Parse.{digits_value}
use Rattle.std.proofs.lemmas.Str.Parse.{IsNumeralModel, numerals_by_value}
use Rattle.arb_share.specs.Text.{line_feed, lines_of}

pub position_or_len-le : {X : Type 0} (p : X → Bool) (xs : List X) → position_or_len p xs ≤ length xs
position_or_len-le p xs = prefix_len-le-length (λ x. not (p x)) xs

-- what `position` finds, or the length where it finds nothing
pub unwrap_position : {X : Type 0} (p : X → Bool) (xs : List X) (r : Option ℕ) → r ≡ cond (nat_lt (position_or_len p xs) (length xs)) (Some (position_or_len p xs)) None → unwrap_or r (length xs) ≡ position_or_len p xs
unwrap_position p xs r e = grind (arith, nat_tests, common_steps, position_or_len-le p xs)

-- the index where a test is first met, one element on
drop_on : (b : Bool) (n x : ℕ) (xs : List ℕ) → drop (cond b (1 + n) 0) (x ∷ xs) ≡ cond b (drop n xs) (x ∷ xs)
drop_on true n x xs = let more : 1 + n ≡ suc n = omega arith in rw more refl
drop_on false n x xs = refl

take_on : (b : Bool) (n x : ℕ) (xs : List ℕ) → take (cond b (1 + n) 0) (x ∷ xs) ≡ cond b (x ∷ take n xs) []
take_on true n x xs = let more : 1 + n ≡ suc n = omega arith in rw more refl
take_on false n x xs = refl

-- the index of the first LF
abbrev pub line_end : List ℕ → ℕ
line_end text = position_or_len (λ byte. byte == line_feed) text

-- the first line ends at the first LF
pub lines_front : (byte : ℕ) (text : List ℕ) → lines_of (byte ∷ text) ≡ take (line_end (byte ∷ text)) (byte ∷ text) ∷ lines_of (drop (suc (line_end (byte ∷ text))) (byte ∷ text))
lines_front byte [] =
    elim (byte == line_feed) as (λ b. cond b ([] ∷ []) ((byte ∷ []) ∷ []) ≡ take (cond (not b) 1 0) (byte ∷ []) ∷ lines_of (drop (suc (cond (not b) 1 0)) (byte ∷ []))) [ true ↦ refl | false ↦ refl ]
lines_front byte (next ∷ text) =
    let rest = next ∷ text in
    let n = line_end rest in
    elim (byte == line_feed) as (λ b. cond b ([] ∷ lines_of rest) (onto_first byte (lines_of rest)) ≡ take (cond (not b) (1 + n) 0) (byte ∷ rest) ∷ lines_of (drop (suc (cond (not b) (1 + n) 0)) (byte ∷ rest))) [
      | true ↦ refl
      | false ↦ let more : 1 + n ≡ suc n = omega arith in rw more (ap (onto_first byte) (lines_front next text))
    ]

-- the parts between the elements that pass, the empty ones left out
abbrev pub parts_by : (ℕ → Bool) → List ℕ → List (List ℕ)
parts_by p line = filter (λ part. nat_lt 0 (length part)) (slice_split p line)

-- elements that pass and stand in front change no part
pub parts_skip : (p : ℕ → Bool) (line : List ℕ) → parts_by p line ≡ parts_by p (drop (position_or_len (λ x. not (p x)) line) line)
parts_skip p [] = refl
parts_skip p (x ∷ xs) = grind (arith, nat_tests, drop_on, parts_skip p xs)

-- behind those, no element that passes stands in front
pub parts_begin : (p : ℕ → Bool) (line : List ℕ) → 0 < length (drop (position_or_len (λ x. not (p x)) line) line) → 0 < position_or_len p (drop (position_or_len (λ x. not (p x)) line) line)
parts_begin p [] h = grind arith
parts_begin p (x ∷ xs) h = grind (arith, nat_tests, drop_on, parts_begin p xs)

-- the first part ends at the first element that passes
split_front : (p : ℕ → Bool) (xs : List ℕ) → slice_split p xs ≡ take (position_or_len p xs) xs ∷ drop 1 (slice_split p (drop (position_or_len p xs) xs))
split_front p [] = refl
split_front p (x ∷ xs) = grind (arith, nat_tests, drop_on, take_on, split_front p xs)

-- and what follows it has no part in front
split_behind : (p : ℕ → Bool) (xs : List ℕ) → parts_by p (drop (position_or_len p xs) xs) ≡ filter (λ part. nat_lt 0 (length part)) (drop 1 (slice_split p (drop (position_or_len p xs) xs)))
split_behind p [] = refl
split_behind p (x ∷ xs) = grind (arith, nat_tests, drop_on, split_behind p xs)

pub filter_full : (part : List ℕ) (parts : List (List ℕ)) → 0 < length part → filter (λ part. nat_lt 0 (length part)) (part ∷ parts) ≡ part ∷ filter (λ part. nat_lt 0 (length part)) parts
filter_full part parts h = grind (arith, nat_tests)

pub parts_front : (p : ℕ → Bool) (xs : List ℕ) → 0 < length (take (position_or_len p xs) xs) → parts_by p xs ≡ take (position_or_len p xs) xs ∷ parts_by p (drop (position_or_len p xs) xs)
parts_front p xs h = grind (arith, nat_tests, split_front p xs, split_behind p xs, filter_full)

-- a text that is cut before its first LF: the front is the first line, and what follows the LF has the others
pub lines_split : (text line rest after : List ℕ) (n : ℕ) → 0 < length text → n ≡ line_end text → line ≡ take n text → rest ≡ drop n text → after ≡ drop 1 rest → lines_of text ≡ line ∷ lines_of after
lines_split [] line rest after n h is e f g = grind arith
lines_split (byte ∷ text) line rest after n h is e f g =
    let behind : after ≡ drop (suc n) (byte ∷ text) = g ∙ ap (drop 1) f ∙ drop-drop 1 n (byte ∷ text) ∙ ap (λ k. drop k (byte ∷ text)) (add-one n) in
    rw (e, behind, is) (lines_front byte text)

pub drop_one-short : (xs : List ℕ) → length xs < 1 → drop 1 xs ≡ xs
drop_one-short xs h = grind (arith, common_steps)

pub take-drop_one : (xs : List ℕ) → take (length xs - 1) (drop 1 xs) ≡ drop 1 xs
take-drop_one xs = grind (arith, common_steps, take_all)

pub empty-is : {X : Type 0} (xs : List X) → length xs ≡ 0 → xs ≡ []
empty-is xs h = grind (arith, common_steps)

-- what the first line says, and what those after it say
pub lines_say : {Said : Type 0} (say : List ℕ → Said) (rest line after : List ℕ) (said : Said) → lines_of rest ≡ line ∷ lines_of after → say line ≡ said → map say (lines_of rest) ≡ said ∷ map say (lines_of after)
lines_say say rest line after said cut says = rw (cut, says) refl

-- what a word of digits alone writes
pub digits : IsNumeralModel (λ ds. list_all is_ascii_digit ds ≡ true) (digits_value 10)
digits = numerals_by_value _ (search rules)
