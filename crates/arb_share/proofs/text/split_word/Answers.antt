use Rattle.std.proofs.Common.{◌≡◌, ℕ, ◌<◌, ◌∷◌, List, length, drop, take, not, arith, length-take-le}
use Rattle.std.specs.List.{position_or_len}
use Rattle.std.proofs.lemmas.Bool.Decides.{nat_tests}
use Rattle.arb_share.specs.Text.{words_of, is_separator}
use Rattle.arb_share.proofs.TextLaws.{parts_skip, parts_begin, parts_front, position_or_len-le, empty-is}
use Rattle.arb_share.proofs.text.split_word.Goals as goal

-- the line without the separators in front
abbrev begun : List ℕ → List ℕ
begun line = drop (position_or_len (λ byte. not (is_separator byte)) line) line

-- what is left of a line begins with a word
first_word : (line rest word after : List ℕ) (end : ℕ) → rest ≡ begun line → 0 < length rest → end ≡ position_or_len is_separator rest → word ≡ take end rest → after ≡ drop end rest → (words_of line ≡ word ∷ words_of after) × (0 < length word)
first_word line rest word after end e some at front back =
    grind (arith, parts_skip is_separator line, parts_begin is_separator line, parts_front is_separator rest, length-take-le, position_or_len-le is_separator rest)

pub returns-then-is_empty-clause-words : goal.returns-then-is_empty-clause-words
returns-then-is_empty-clause-words c =
    grind (arith, nat_tests, parts_skip is_separator c.args.line.now, empty-is c.split_at.result.1.now, c.separators_len.ensures, c.split_at.ensures, c.if-is_empty.ensures)

pub returns : goal.returns
returns c = grind (arith, nat_tests, c.separators_len.ensures, c.split_at.ensures, c.if-is_empty.ensures, c.word_len.ensures, c.split_at-2.ensures, first_word c.args.line.now c.split_at.result.1.now c.split_at-2.result.0.now c.split_at-2.result.1.now c.word_len.result)
