-- Words as sets of places, and rows of words as sets of more places.
use Rattle.std.specs.Prelude.{ℕ, ◌+◌, ◌-◌, ◌*◌, List, Bool, ◌/◌, ◌%◌, ◌==◌, slice_index}
use Rattle.std.specs.Int.{bit_at}
use Rattle.arb_model.specs.Layout.{word_count}

-- how many places a word has: a bit for each
abbrev pub word_size : ℕ
word_size = 64

-- how many words a row has: there are two places for each page word
abbrev pub row_count : ℕ
row_count = (2 * word_count + (word_size - 1)) / word_size

-- how many places a row has
abbrev pub mark_count : ℕ
mark_count = word_size * row_count

-- whether a word has the bit of a place
abbrev pub has_bit : ℕ → ℕ → Bool
has_bit word place = bit_at word place == 1

-- whether a row of words has the bit of a place
abbrev pub has_mark : List ℕ → ℕ → Bool
has_mark row place = has_bit (slice_index row (place / word_size)) (place % word_size)
