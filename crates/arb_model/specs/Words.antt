-- The page words of a standing.
use Rattle.std.specs.Prelude.{ℕ, List, Option, Bool, ◌-◌, ◌^◌, ◌==◌, ◌&&◌, nat_lt, if◌then◌else◌, length, map, sum}
use Rattle.std.specs.List.{position_or_len, range_with_len}
use Rattle.arb_model.specs.declared.holders.Holder.{Holder}
use Rattle.arb_model.specs.Layout.{core_word, first_place, half_size, moved_word, position_in, release_app, release_half, unmanaged_word, waiting_word}
use Rattle.arb_model.specs.Standing.{Seats, Standing, holder_at, is_asked, is_held_by, is_moved, is_of, is_waiting}

-- whether an application owns a core and is asked for it
abbrev pub is_asked_of : ℕ → Option Holder → Bool
is_asked_of app core = is_of app core && is_asked core

-- the bit of a place in a half where an application owns the core at its position and is asked for it, 0 for another place
abbrev pub asked_bit : (app half : ℕ) → List (Option Holder) → (place : ℕ) → ℕ
asked_bit app half cores place = if is_asked_of app (holder_at cores (position_in half place)) then 2 ^ place else 0

-- the release word of an application for a half: bit c is set where it owns the core at the half's position of place c and is asked for it
abbrev pub release_word : Seats → (app half : ℕ) → ℕ
release_word s app half = sum (map (asked_bit app half s.cores) (range_with_len 0 half_size))

-- the place word of a thread: on a core the position and whether it is asked back, else whether it was moved or waits
abbrev pub place_word : Seats → ℕ → ℕ
place_word s thread =
    let position = position_or_len (is_held_by thread) s.cores in
    if nat_lt position (length s.cores)
    then core_word position (is_asked (holder_at s.cores position))
    else (if is_moved s thread then moved_word
    else (if is_waiting s thread then waiting_word else unmanaged_word))

-- a page word other than word 0: first two release words of each application, then the place words of the threads
abbrev pub seat_word : Seats → ℕ → ℕ
seat_word s w = if nat_lt w first_place then release_word s (release_app w) (release_half w) else place_word s (w - first_place)

-- word 0 counts the orders, the others show the seats
abbrev pub word_of : Standing → ℕ → ℕ
word_of s w = if w == 0 then sum s.counts else seat_word s.seats w
