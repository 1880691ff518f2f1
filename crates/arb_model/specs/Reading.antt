-- What a word reads after a history.
use Rattle.std.specs.Prelude.{◌≡◌, ℕ, ◌<◌, ◌==◌, if◌then◌else◌, List, [], ◌∷◌, Option, Some, None, slice_index, unwrap_or}
use Rattle.std.specs.Option.{option_or}
use Rattle.arb_model.specs.declared.orders.Event.{Event}
use Rattle.arb_model.specs.declared.orders.Event.TheVariants.{Entered, Posted}
use Rattle.arb_model.specs.Limits.{all_threads}
use Rattle.arb_model.specs.Layout.{NamesACore, place_index, position_named, word_count}
use Rattle.arb_model.specs.History.{History, orders_in}

-- the value that an event posts of a word, if it posts that word
abbrev pub posted_by : ℕ → Event → Option ℕ
posted_by w (Entered e) = None
posted_by w (Posted u value) = if u == w then Some value else None

-- the value of the last post of a word: that in the events after the first, or else the first event's
abbrev pub last_posted : ℕ → History → Option ℕ
last_posted w [] = None
last_posted w (e ∷ es) = option_or (last_posted w es) (posted_by w e)

-- the reading of a word: for word 0 the number of orders, for another word the value of its last post, 0 where there is none
unfoldable pub reading : History → ℕ → ℕ
reading h w = if w == 0 then orders_in h else unwrap_or (last_posted w h) 0

-- the page words are the readings of a history; what stands behind them may be anything
abbrev pub AreReadings : List ℕ → History → Type 0
AreReadings words h = (w : ℕ) → w < word_count → slice_index words w ≡ reading h w

-- the word that an event writes
abbrev pub word_written : Event → ℕ
word_written (Entered e) = 0
word_written (Posted w value) = w

-- no two readings of place words name one core
abbrev pub ReadsNoCoreTwice : History → Type 0
ReadsNoCoreTwice h = (t u : ℕ) → t < all_threads → u < all_threads → NamesACore (reading h (place_index t)) → NamesACore (reading h (place_index u)) → position_named (reading h (place_index t)) ≡ position_named (reading h (place_index u)) → t ≡ u
