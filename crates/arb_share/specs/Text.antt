-- The lines of a text, the words of a line, and the numbers that words write.
use Rattle.std.specs.Prelude.{ℕ, List, [], ◌∷◌, Option, Some, None, Bool, true, ◌==◌, ◌&&◌, ◌||◌, not, nat_lt, nat_le, if◌then◌else◌, length, slice_index, filter}
use Rattle.std.specs.List.{slice_split, onto_first, list_all}
use Rattle.std.specs.Char.{is_ascii_digit}
use Rattle.std.specs.Str.Parse.{digits_value}

-- a tab
abbrev pub tab : ℕ
tab = 9

-- LF, which ends a line
abbrev pub line_feed : ℕ
line_feed = 10

-- CR
abbrev pub carriage_return : ℕ
carriage_return = 13

-- a space
abbrev pub space : ℕ
space = 32

-- #, which begins a comment
abbrev pub number_sign : ℕ
number_sign = 35

-- the digit 0
abbrev pub digit_zero : ℕ
digit_zero = 48

-- the lines of a text: it is cut at each LF, and what follows the last LF is a line where there is any
abbrev pub lines_of : List ℕ → List (List ℕ)
lines_of [] = []
lines_of (byte ∷ text) = if byte == line_feed then [] ∷ lines_of text else onto_first byte (lines_of text)

-- space, tab and CR separate words
abbrev pub is_separator : ℕ → Bool
is_separator byte = byte == space || (byte == tab || byte == carriage_return)

-- the words of a line: its parts between separators, the empty ones left out
abbrev pub words_of : List ℕ → List (List ℕ)
words_of line = filter (λ part. nat_lt 0 (length part)) (slice_split is_separator line)

-- a line is skipped where it has no word, or its first word begins with #
abbrev pub is_skipped : (words : List (List ℕ)) → Bool
is_skipped [] = true
is_skipped (first ∷ rest) = slice_index first 0 == number_sign

-- a 0 stands in front of other digits
abbrev pub has_leading_zero : List ℕ → Bool
has_leading_zero word = nat_lt 1 (length word) && slice_index word 0 == digit_zero

-- one or more decimal digits, without a leading zero (0 itself is a number)
abbrev pub is_number : List ℕ → Bool
is_number word = list_all is_ascii_digit word && (nat_lt 0 (length word) && not (has_leading_zero word))

-- the number that a word writes, where it is one and at most `most`
abbrev pub number_of : (most : ℕ) → List ℕ → Option ℕ
number_of most word = if is_number word && nat_le (digits_value 10 word) most then Some (digits_value 10 word) else None
