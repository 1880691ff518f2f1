-- The limit on the entries of a request.
use Rattle.std.specs.Prelude.{◌≡◌, ℕ, ◌<◌, ◌≤◌, List, length, slice_index}

-- the entry at `level` is `value`, above the limit, and no entry before it is
pub record IsFirstAbove (most : ℕ) (entries : List ℕ) (level value : ℕ) : Type 0 where
  pub inside : level < length entries
  pub is : slice_index entries level ≡ value
  pub above : most < value
  pub first : (before : ℕ) → before < level → slice_index entries before ≤ most
