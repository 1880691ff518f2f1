-- The slots of the waiting threads: the threads in order of blocking, with a gap where one left.
use Rattle.std.specs.Prelude.{◌≡◌, ℕ, ◌+◌, ◌*◌, ◌<◌, ◌≤◌, List, Bool, nat_lt, filter, length, slice_index}
use Rattle.arb_model.specs.Standing.{waiting_count}
use Rattle.arb_model.specs.WellFormed.{times_waiting}
use Rattle.arb_model.specs.Limits.{all_threads}
use Rattle.arb_share.specs.Limits.{applications}

-- how many slots there are, two for each thread; also the slot of a thread that doesn't wait
abbrev pub slot_count : ℕ
slot_count = 2 * all_threads

-- whether a slot holds a thread; a gap holds the number of all threads
abbrev pub is_thread : ℕ → Bool
is_thread slot = nat_lt slot all_threads

-- the threads that the slots hold
abbrev pub threads_in : List ℕ → List ℕ
threads_in slots = filter is_thread slots

-- the slot of each thread in the slots is known
abbrev pub AreKnown : List ℕ → List ℕ → Type 0
AreKnown slots slot_of = (p : ℕ) → p < length slots → slice_index slots p < all_threads → slice_index slot_of (slice_index slots p) ≡ p

-- what holds of the slots of a queue: each thread's slot is known, and none where it doesn't wait, and the threads of each application are counted
pub record IsQueue (slots slot_of counts : List ℕ) : Type 0 where
  pub known : AreKnown slots slot_of
  pub absent : (t : ℕ) → t < all_threads → times_waiting t (threads_in slots) ≡ 0 → slice_index slot_of t ≡ slot_count
  pub counted : (app : ℕ) → app < applications → slice_index counts app ≡ waiting_count app (threads_in slots)

-- none of so many numbers of a list, from an index on, is less, and where it is below a limit it is one of them
pub record IsLeast (xs : List ℕ) (limit from n least : ℕ) : Type 0 where
  pub all : (k : ℕ) → k < n → least ≤ slice_index xs (from + k)
  pub one : least < limit → (k : ℕ) × (k < n) × (slice_index xs (from + k) ≡ least)
