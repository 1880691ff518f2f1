-- The limits on requests and on their text. The code has a constant of its own for each (`src/limits.rt`).
use Rattle.std.specs.Prelude.{ℕ}

-- how many applications share a machine; they are numbered from 0
abbrev pub applications : ℕ
applications = 16

-- at how many levels an application asks for cores; they are numbered from 0
abbrev pub levels : ℕ
levels = 8

-- the most cores that a request may name at one level
abbrev pub max_entry : ℕ
max_entry = 128

-- the largest number that a word of a row may write as an entry: a word beyond it is no number
abbrev pub max_entry_word : ℕ
max_entry_word = 255

-- the most bytes that an input of `due` may have
abbrev pub max_input : ℕ
max_input = 4096
