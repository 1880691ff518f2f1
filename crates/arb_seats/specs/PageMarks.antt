-- What the marks of the page words say: which words are stale, and which of them are posted first.
use Rattle.std.specs.Prelude.{◌≡◌, ◌==◌, ◌<◌, ◌≤◌, ◌+◌, ◌*◌, ◌&&◌, ℕ, Bool, List, length, false, if◌then◌else◌, not, slice_index}
use Rattle.arb_seats.specs.Bits.{has_bit, has_mark, mark_count, row_count, word_size}
use Rattle.arb_seats.specs.PageWords.{PageWords, is_stale_in, names_stale_in}
use Rattle.arb_model.specs.Layout.{is_place_index, names_a_core, word_count}

-- whether a word is a place word whose posted value names a core
abbrev pub names_core : (w posted : ℕ) → Bool
names_core w posted = is_place_index w && names_a_core posted

-- where the mark of a word stands: behind the words that name a core, those of all others
abbrev pub mark_at : (w posted : ℕ) → ℕ
mark_at w posted = if names_core w posted then w else word_count + w

-- each stale word has its mark, and there is no other
pub record AreMarked (pages : PageWords) (marks : List ℕ) : Type 0 where
  pub words : length pages.words ≡ word_count
  pub posted : length pages.posted ≡ word_count
  pub counted : slice_index pages.words 0 ≡ slice_index pages.posted 0
  pub namings : (w : ℕ) → w < word_count → has_mark marks w ≡ names_stale_in pages w
  pub others : (w : ℕ) → w < word_count
      → has_mark marks (word_count + w) ≡ (not (names_core w (slice_index pages.posted w)) && is_stale_in pages w)
  pub past : (v : ℕ) → 2 * word_count ≤ v → v < mark_count → has_mark marks v ≡ false

-- a word has a bit for each row that isn't 0, and no other
pub record AreFilled (rows : List ℕ) (filled : ℕ) : Type 0 where
  pub some : (k : ℕ) → k < row_count → has_bit filled k ≡ not (slice_index rows k == 0)
  pub past : (k : ℕ) → row_count ≤ k → k < word_size → has_bit filled k ≡ false
