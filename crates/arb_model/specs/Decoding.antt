-- The place that a place word says, and that this undoes how the word was made.
use Rattle.std.specs.Prelude.{◌≡◌, ℕ, Option, Some, None, Bool, ◌==◌, nat_lt, if◌then◌else◌, length, slice_index}
use Rattle.arb_config.specs.Machine.{Machine, cores_of}
use Rattle.arb_model.specs.declared.orders.Place.{Place}
use Rattle.arb_model.specs.declared.orders.Place.TheVariants.{Unmanaged, Waiting, Moved, On}
use Rattle.arb_model.specs.Layout.{asked_named, moved_word, names_a_core, position_named, unmanaged_word, waiting_word}
use Rattle.arb_model.specs.Standing.{Seats}
use Rattle.arb_model.specs.Step.{place_of}
use Rattle.arb_model.specs.Words.{place_word}

-- the core of a place word that names one, if the machine has its position
abbrev pub core_in_word : Machine → ℕ → Option Place
core_in_word m word =
    if nat_lt (position_named word) (length (cores_of m))
    then Some (On (slice_index (cores_of m) (position_named word)) (asked_named word))
    else None

-- the place that a place word says, none where no thread of the machine has that word
abbrev pub place_in_word : Machine → ℕ → Option Place
place_in_word m word =
    if names_a_core word then core_in_word m word
    else (if word == moved_word then Some Moved
    else (if word == waiting_word then Some Waiting
    else (if word == unmanaged_word then Some Unmanaged else None)))

-- whether the core that a place word names is asked back, none where it names no core
abbrev pub asked_in_word : ℕ → Option Bool
asked_in_word word = if names_a_core word then Some (asked_named word) else None

-- whether the core of a place is asked back, none where the place is no core
abbrev pub asked_in_place : Place → Option Bool
asked_in_place (On core asked) = Some asked
asked_in_place place = None

-- the place word of a thread of a machine is read as the thread's place
abbrev pub PlacesAreDecoded : Type 0
PlacesAreDecoded = (m : Machine) (s : Seats) (thread : ℕ) → length s.cores ≡ length (cores_of m) → place_in_word m (place_word s thread) ≡ Some (place_of m s thread)

-- and what it says of the asking is so
abbrev pub AsksAreDecoded : Type 0
AsksAreDecoded = (m : Machine) (s : Seats) (thread : ℕ) → asked_in_word (place_word s thread) ≡ asked_in_place (place_of m s thread)
