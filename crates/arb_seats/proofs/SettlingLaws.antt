-- Posting all stale words at once: how many are still stale, and what is posted in the end.
use Rattle.arb_seats.proofs.Words.{◌⊎◌, ◌&&◌, ◌==◌, not, Bool, inl, inr, ◌≡◌, ℕ, ◌<◌, Option, None, Some, true, false, arith, slice_index, slice_set, length, ext_get_or, written, Seats, PageWords, ShowsSeats}
use Rattle.arb_seats.proofs.Words.{is_stale_in, names_stale_in, word_count, first_below, count_below-smaller, first_below_found, first_below_none, count_below}
use Rattle.std.specs.Option.{option_or}
use Rattle.arb_seats.specs.PageWords.{next_stale_in}

-- how many words are stale
unfoldable pub stale_in : PageWords → ℕ
stale_in pages = count_below (is_stale_in pages) word_count

-- the first of two that there is
either : (first second : Option ℕ) (w : ℕ) → option_or first second ≡ Some w → (first ≡ Some w) ⊎ (second ≡ Some w)
either None second w is = inr is
either (Some u) second w is = inl is

neither : (first second : Option ℕ) → option_or first second ≡ None → second ≡ None
neither None second is = is
neither (Some u) second is = grind (arith, is)

third : (a b c : Bool) → (a && (b && c)) ≡ true → c ≡ true
third a b c all = grind (arith, all)

equal : (m n : ℕ) → not (m == n) ≡ false → m ≡ n
equal m n is = grind (arith, is)

module _ (pages : PageWords) where
  -- the next stale word is stale
  next_is_stale : (w : ℕ) → next_stale_in pages ≡ Some w → is_stale_in pages w ≡ true
  unfolding next_stale_in
  next_is_stale w next =
      elim (either (first_below (names_stale_in pages) word_count) (first_below (is_stale_in pages) word_count) w next) [
        | inl naming ↦ third _ _ _ (first_below_found (names_stale_in pages) word_count w naming).1.0
        | inr other ↦ (first_below_found (is_stale_in pages) word_count w other).1.0
      ]

  -- once it is posted, one word less is stale
  pub stale_fewer : (w : ℕ) → w < word_count → next_stale_in pages ≡ Some w → length pages.posted ≡ word_count
      → stale_in (record pages { posted = slice_set pages.posted w (slice_index pages.words w) }) < stale_in pages
  unfolding stale_in
  stale_fewer w less next full =
      let after : PageWords = record pages { posted = slice_set pages.posted w (slice_index pages.words w) } in
      count_below-smaller (is_stale_in after) (is_stale_in pages) word_count w less (grind (arith, written)) (next_is_stale w next) (grind (arith, full, less, written))

  -- where none is next, all are posted
  pub none_left : next_stale_in pages ≡ None → length pages.words ≡ word_count → length pages.posted ≡ word_count → pages.posted ≡ pages.words
  unfolding next_stale_in
  none_left none long full =
      let no_stale = first_below_none (is_stale_in pages) word_count (neither (first_below (names_stale_in pages) word_count) (first_below (is_stale_in pages) word_count) none) in
      ext_get_or 0 pages.posted pages.words (grind arith) (λ w less. equal _ _ (no_stale w (omega (arith, less, full))))

-- where all words are posted they show the seats as before
pub shown_settled : {s : Seats} {pages shown : PageWords} → ShowsSeats s pages → shown ≡ record { words = pages.words; posted = pages.words } → ShowsSeats s shown
shown_settled h is = grind arith
