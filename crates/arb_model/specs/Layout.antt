-- The layout of the page words: which word says what, and what the values of a place word say.
use Rattle.std.specs.Prelude.{ℕ, ◌+◌, ◌-◌, ◌*◌, ◌/◌, ◌%◌, ◌≤◌, Bool, ◌==◌, nat_le, nat_lt, if◌then◌else◌}
use Rattle.arb_share.specs.Limits.{applications}
use Rattle.arb_model.specs.declared.layout.Half.{Half}
use Rattle.arb_model.specs.declared.layout.Half.TheVariants.{Low, High}
use Rattle.arb_model.specs.Lists.{one_if}
use Rattle.arb_model.specs.Limits.{all_threads}

-- how many halves the positions are shown in
abbrev pub halves : ℕ
halves = 2

-- how many positions a half has: a release word has a bit for each
abbrev pub half_size : ℕ
half_size = 64

-- the number of a half
abbrev pub half_number : Half → ℕ
half_number Low = 0
half_number High = 1

-- the position of a place in a half: the low half has the positions 0 to 63, the high one those from 64 on
abbrev pub position_in : (half place : ℕ) → ℕ
position_in half place = half_size * half + place

-- the half of a position
abbrev pub half_of : ℕ → Half
half_of position = if nat_lt position half_size then Low else High

-- the number of the first release word; word 0, before it, counts the orders
abbrev pub first_release : ℕ
first_release = 1

-- the number of the release word of an application for a half
abbrev pub release_index : (app half : ℕ) → ℕ
release_index app half = first_release + halves * app + half

-- the application of the release word of a number
abbrev pub release_app : ℕ → ℕ
release_app w = (w - first_release) / halves

-- and its half
abbrev pub release_half : ℕ → ℕ
release_half w = (w - first_release) % halves

-- the number of the first place word: these stand behind the release words
abbrev pub first_place : ℕ
first_place = first_release + halves * applications

-- the number of the place word of a thread, the thread numbered among all threads
abbrev pub place_index : ℕ → ℕ
place_index thread = first_place + thread

-- whether the word of a number is a place word: these stand last
abbrev pub is_place_index : ℕ → Bool
is_place_index w = nat_le first_place w

-- how many page words there are
abbrev pub word_count : ℕ
word_count = first_place + all_threads

-- the place word of an unmanaged thread
abbrev pub unmanaged_word : ℕ
unmanaged_word = 0

-- the place word of a thread that waits
abbrev pub waiting_word : ℕ
waiting_word = 1

-- the place word of a thread that was moved
abbrev pub moved_word : ℕ
moved_word = 2

-- the least place word that names a core: the core at position 0, not asked back
abbrev pub first_core_word : ℕ
first_core_word = 4

-- the place word of a thread on the core at a position, asked back or not
abbrev pub core_word : (position : ℕ) → (asked : Bool) → ℕ
core_word position asked = first_core_word + 2 * position + one_if asked

-- a place word names a core
abbrev pub NamesACore : ℕ → Type 0
NamesACore word = first_core_word ≤ word

-- the same as a test
abbrev pub names_a_core : ℕ → Bool
names_a_core word = nat_le first_core_word word

-- the position of the core that a place word names
abbrev pub position_named : ℕ → ℕ
position_named word = (word - first_core_word) / 2

-- whether the core that a place word names is asked back
abbrev pub asked_named : ℕ → Bool
asked_named word = (word - first_core_word) % 2 == 1
