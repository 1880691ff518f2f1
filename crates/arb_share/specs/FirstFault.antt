-- The first faulty line of a text.
use Rattle.std.specs.Prelude.{◌≡◌, ℕ, ◌+◌, ◌-◌, ◌<◌, ◌≤◌, Option, Some, None}

-- the line, counted from 1, has this fault, and no earlier line is faulty
pub record IsFirst {Kind : Type 0} (at : (index : ℕ) → Option Kind) (count line : ℕ) (kind : Kind) : Type 0 where
  pub counted : 1 ≤ line
  pub inside : line ≤ count
  pub is : at (line - 1) ≡ Some kind
  pub first : (index : ℕ) → index + 1 < line → at index ≡ None
