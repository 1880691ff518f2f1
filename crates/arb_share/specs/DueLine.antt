-- The due numbers as text.
use Rattle.std.specs.Prelude.{ℕ, List, [], ◌∷◌, ◌++◌, map, decimal}
use Rattle.std.specs.List.{join_with_byte}
use Rattle.arb_share.specs.Text.{line_feed, space}

-- the numbers in decimal with one space between them, and LF
abbrev pub due_line : (due : List ℕ) → List ℕ
due_line due = join_with_byte space (map decimal due) ++ line_feed ∷ []
