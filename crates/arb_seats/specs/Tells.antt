-- What the place word of a thread tells.
use Rattle.std.specs.Prelude.{◌≡◌, ℕ, ◌<◌, ◌==◌, true, length}
use Rattle.arb_model.specs.Layout.{NamesACore, asked_named, first_core_word, moved_word, position_named, unmanaged_word, waiting_word}
use Rattle.arb_model.specs.Standing.{Seats, holder_at, is_asked, is_held_by, is_moved, is_waiting}
use Rattle.arb_model.specs.WellFormed.{times_on, times_placed, times_waiting}

-- a word tells where a thread is: on no core, nowhere, moved, waiting, or on the core that it names, asked back or not
pub record Tells (s : Seats) (thread word : ℕ) : Type 0 where
  pub off : word < first_core_word → times_on thread s.cores ≡ 0
  pub nowhere : word ≡ unmanaged_word → times_placed s thread ≡ 0
  pub moved : word ≡ moved_word → is_moved s thread ≡ true
  pub waits : (word == waiting_word) ≡ is_waiting s thread
  pub queued : word ≡ waiting_word → 0 < times_waiting thread s.waiting
  pub high : (word ≡ unmanaged_word → ⊥) → (word ≡ moved_word → ⊥) → (word ≡ waiting_word → ⊥) → NamesACore word
  pub on : NamesACore word → (position_named word < length s.cores) × (is_held_by thread (holder_at s.cores (position_named word)) ≡ true)
  pub asked : NamesACore word → is_asked (holder_at s.cores (position_named word)) ≡ asked_named word
