-- The limits on the text of a script. Those of `src/limits.rt` are proved to be the same.
use Rattle.std.specs.Prelude.{ℕ}

-- the most bytes that a line may have before its LF
abbrev pub max_line : ℕ
max_line = 200

-- the largest number that a word may write as a cap: a word beyond it is no number
abbrev pub max_cap_word : ℕ
max_cap_word = 255

-- the largest number that a word may write as a moment, in microseconds
abbrev pub max_moment : ℕ
max_moment = 18446744073709551615

-- the most bytes that a script may have
abbrev pub max_script : ℕ
max_script = 16777216
