-- The place words of threads, by who is where.
use Rattle.arb_seats.proofs.Words.{Cores, ◌≡◌, ℕ, ◌<◌, ◌≤◌, List, [], ◌∷◌, length, set, refl, arith, ap, slice_index, Option, Some, None, Bool, true, false, if◌then◌else◌, is_some, count_by}
use Rattle.arb_seats.proofs.Words.{position_or_len, lt-ltb, get_or_past, written, passes_at_first, sum_by-cons, sum_by-set, Holder, count_below, one_if, Seats, holder_at, is_asked, is_held_by}
use Rattle.arb_seats.proofs.Words.{is_moved, is_waiting, times_placed, times_on, times_waiting, NamesACore, asked_named, core_word, first_core_word, moved_word, position_named, unmanaged_word, waiting_word}
use Rattle.arb_seats.proofs.Words.{place_word, any_counted, count_below-same, position_or_len-lt, held_counts}
use Rattle.std.proofs.lemmas.List.Sums.{fails_before_first, position_or_len_is}
use Rattle.arb_model.specs.declared.orders.Place.TheVariants.{Unmanaged, Waiting, Moved as was_moved, On}
use Rattle.arb_model.specs.Step.{place_in}
use Rattle.arb_model.proofs.CountLaws.{count_below-first}
use Rattle.arb_share.proofs.TextLaws.{position_or_len-le}
use Rattle.arb_model.proofs.WordsLaws.{names_core}
use Rattle.arb_seats.specs.Tells.{Tells}

-- how many of all cores pass a test, by position
pub count_all : (test : Option Holder → Bool) (cores : Cores) → count_below (λ p. test (holder_at cores p)) (length cores) ≡ count_by test cores
count_all test [] = omega arith
count_all test (x ∷ xs) =
    omega (arith, count_below-first (λ p. test (holder_at (x ∷ xs) p)) (length xs), count_all test xs, sum_by-cons (λ o. one_if (test o)) x xs)

module _ (cores : Cores) (p : ℕ) where
  -- a core that is held stands among the cores
  pub held_within : (holder : Holder) → holder_at cores p ≡ Some holder → p < length cores
  held_within holder at = grind (arith, get_or_past)

  -- who is counted on no core has none
  pub none_held : (thread : ℕ) → times_on thread cores ≡ 0 → is_held_by thread (holder_at cores p) ≡ false
  none_held thread z = grind (arith, held_counts)

-- a thread that is on one core once is on no other
pub held_once : (thread : ℕ) (cores : Cores) (p q : ℕ) → times_on thread cores ≤ 1 → p < length cores → is_held_by thread (holder_at cores p) ≡ true → (q ≡ p → ⊥)
    → is_held_by thread (holder_at cores q) ≡ false
held_once thread cores p q once less on ne =
    let none : times_on thread (set cores p None) ≡ 0 = grind (arith, sum_by-set) in
    grind (arith, none_held (set cores p None) q thread none, written)

module _ (s : Seats) (thread : ℕ) where
  -- where a thread stands, on one core and on none
  on_at : (p : ℕ) → times_on thread s.cores ≤ 1 → p < length s.cores → is_held_by thread (holder_at s.cores p) ≡ true → position_or_len (is_held_by thread) s.cores ≡ p
  on_at p once less on = grind (arith, position_or_len_is, held_once)

  off_at : times_on thread s.cores ≡ 0 → position_or_len (is_held_by thread) s.cores ≡ length s.cores
  off_at none = grind (arith, position_or_len_is (is_held_by thread) s.cores (length s.cores) None, none_held)

  -- its place word there
  pub place_on : (p : ℕ) → times_on thread s.cores ≤ 1 → p < length s.cores → is_held_by thread (holder_at s.cores p) ≡ true
      → place_word s thread ≡ core_word p (is_asked (holder_at s.cores p))
  place_on p once less on = rw (on_at p once less on, lt-ltb p (length s.cores) less) refl

  place_off : times_on thread s.cores ≡ 0 → place_word s thread ≡ (if is_moved s thread then moved_word else (if is_waiting s thread then waiting_word else unmanaged_word))
  place_off none = grind (arith, off_at)

  -- and its place
  pub place_in_on : (numbers : List ℕ) (p : ℕ) (holder : Holder) → times_placed s thread ≤ 1 → holder_at s.cores p ≡ Some holder → holder.thread ≡ thread
      → On (slice_index numbers p) (is_some holder.asked) ≡ place_in numbers s thread
  place_in_on numbers p holder once here is = grind (arith, on_at p, held_within s.cores p holder)

  pub place_in_off : (numbers : List ℕ) → times_on thread s.cores ≡ 0
      → place_in numbers s thread ≡ (if is_moved s thread then was_moved else (if is_waiting s thread then Waiting else Unmanaged))
  place_in_off numbers none = grind (arith, off_at)

  -- a thread that is nowhere, was moved, or waits
  pub word_nowhere : times_placed s thread ≡ 0 → place_word s thread ≡ unmanaged_word
  word_nowhere none = grind (arith, any_counted, place_off)

  pub word_moved : times_placed s thread ≤ 1 → is_moved s thread ≡ true → place_word s thread ≡ moved_word
  word_moved once was = grind (arith, place_off)

  pub word_waiting : times_placed s thread ≤ 1 → is_waiting s thread ≡ true → place_word s thread ≡ waiting_word
  word_waiting once waits = grind (arith, any_counted, place_off)

  -- a low word tells that it is on no core, a high one on which it is
  low_word_off : times_placed s thread ≤ 1 → place_word s thread < first_core_word → times_on thread s.cores ≡ 0
  low_word_off once low = grind (arith, position_or_len-lt)

  high_word_on : NamesACore (place_word s thread)
      → (position_named (place_word s thread) < length s.cores) × (is_held_by thread (holder_at s.cores (position_named (place_word s thread))) ≡ true)
  high_word_on high = let n = names_core s thread high in rw n.is (grind arith)

  high_word_asked : times_placed s thread ≤ 1 → NamesACore (place_word s thread)
      → is_asked (holder_at s.cores (position_named (place_word s thread))) ≡ asked_named (place_word s thread)
  high_word_asked once high = grind (arith, high_word_on, place_on)

  pub place_tells : times_placed s thread ≤ 1 → Tells s thread (place_word s thread)
  place_tells once = grind (arith, low_word_off, any_counted, place_off, word_waiting, high_word_on, high_word_asked)

-- one thread stays where it is, while the seats change
pub record Stays (s after : Seats) (t : ℕ) : Type 0 where
  pub held : (p : ℕ) → is_held_by t (holder_at after.cores p) ≡ is_held_by t (holder_at s.cores p)
  pub asked : (p : ℕ) → is_held_by t (holder_at s.cores p) ≡ true → is_asked (holder_at after.cores p) ≡ is_asked (holder_at s.cores p)
  pub waits : times_waiting t after.waiting ≡ times_waiting t s.waiting
  pub marked : is_moved after t ≡ is_moved s t

module _ (s after : Seats) (t : ℕ) (long : length after.cores ≡ length s.cores) (h : Stays s after t) where
  -- it is counted as before
  pub stays_placed : times_placed after t ≡ times_placed s t
  stays_placed =
      let same = count_below-same (λ p. is_held_by t (holder_at after.cores p)) (λ p. is_held_by t (holder_at s.cores p)) (length s.cores) (λ p less. h.held p) in
      let now = rw long at (count_all (is_held_by t) after.cores) in
      omega (arith, count_all (is_held_by t) s.cores, now, same, h.waits, ap one_if h.marked)

  -- and its place word stays
  stays_at : position_or_len (is_held_by t) after.cores ≡ position_or_len (is_held_by t) s.cores
  stays_at =
      grind (arith, position_or_len_is (is_held_by t) after.cores (position_or_len (is_held_by t) s.cores) None, fails_before_first, passes_at_first, position_or_len-le)

  pub stays_word : place_word after t ≡ place_word s t
  stays_word = grind (arith, stays_at, passes_at_first, any_counted)
