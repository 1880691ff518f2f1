-- A machine's cores and threads, with the page words that show them.
use Rattle.std.specs.Prelude.{◌≡◌, ℕ, ◌<◌, ◌≤◌, List, length, slice_index}
use Rattle.arb_config.specs.Machine.{Machine}
use Rattle.arb_seats.specs.PageWords.{PageWords}
use Rattle.arb_model.specs.Standing.{Seats}
use Rattle.arb_model.specs.WellFormed.{times_placed}
use Rattle.arb_model.specs.Words.{place_word, release_word}
use Rattle.arb_model.specs.Limits.{all_threads}
use Rattle.arb_share.specs.Limits.{applications}
use Rattle.arb_model.specs.Layout.{halves, place_index, release_index, word_count}

-- a machine, who is where on it, and the words as they were posted
pub record ShownSeats : Type 0 where
  pub machine : Machine
  pub seats : Seats
  pub posted : List ℕ

-- each thread is in one place at most, and the words show where, and which cores are asked back
pub record ShowsSeats (s : Seats) (pages : PageWords) : Type 0 where
  pub once : (thread : ℕ) → times_placed s thread ≤ 1
  pub threads : (thread : ℕ) → 0 < times_placed s thread → thread < all_threads
  pub marks : length s.moved ≡ all_threads
  pub long : length pages.words ≡ word_count
  pub full : length pages.posted ≡ word_count
  -- word 0 is never stale
  pub entered : slice_index pages.words 0 ≡ slice_index pages.posted 0
  pub places : (thread : ℕ) → thread < all_threads → slice_index pages.words (place_index thread) ≡ place_word s thread
  pub releases : (app half : ℕ) → app < applications → half < halves → slice_index pages.words (release_index app half) ≡ release_word s app half
