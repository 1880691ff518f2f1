-- The page words as the arbiter keeps them: those of its standing, and those that were posted.
use Rattle.std.specs.Prelude.{ℕ, List, Option, Bool, ◌==◌, ◌&&◌, not, slice_index}
use Rattle.std.specs.Option.{option_or}
use Rattle.arb_model.specs.Posting.{first_below}
use Rattle.arb_model.specs.Layout.{is_place_index, names_a_core, word_count}

-- the words of the standing, and the words as they were posted
pub record PageWords : Type 0 where
  pub words : List ℕ
  pub posted : List ℕ

-- whether a word differs from what was posted of it
abbrev pub is_stale_in : PageWords → ℕ → Bool
is_stale_in pages w = not (slice_index pages.posted w == slice_index pages.words w)

-- whether it is a place word, and its posted value names a core
abbrev pub names_stale_in : PageWords → ℕ → Bool
names_stale_in pages w = is_place_index w && (names_a_core (slice_index pages.posted w) && is_stale_in pages w)

-- the stale word that is posted next
unfoldable pub next_stale_in : PageWords → Option ℕ
next_stale_in pages = option_or (first_below (names_stale_in pages) word_count) (first_below (is_stale_in pages) word_count)
