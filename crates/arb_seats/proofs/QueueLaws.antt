-- Laws of the queue of waiting threads: how long it is, and what its slots, the slot of each thread and the counts are after each change.
use Rattle.arb_seats.proofs.Words.{◌≡◌, ℕ, ◌+◌, ◌*◌, ◌/◌, ◌<◌, ◌≤◌, List, length, zero, suc, refl, arith, ◌-◌, get_or, set, take, sym, Bool, not, filter, ◌==◌, remove, count_by, position_or_len}
use Rattle.arb_seats.proofs.Words.{eq-eqb, eqb-true, lt-ltb, sum_by-le-sum_by, sum_by_push, sum_by-set, one_if, app_of, waiting_count, threads, all_threads, times_waiting, get_or-set_same}
use Rattle.arb_seats.proofs.Words.{get_or-set_other, get_or_append_left, nat_tests, nat_le, nat_lt, ◌&&◌, is_thread, length-set, threads_in, IsQueue, slot_count, count_by_filter, applications}
use Rattle.arb_seats.proofs.Words.{take-set-lt, position_or_len-lt}
use Rattle.std.proofs.lemmas.List.{get_or_push, length-take-le, length_push, get_or-take, take_more_set}
use Rattle.std.proofs.lemmas.List.Elements.{filter-append}
use Rattle.std.proofs.lemmas.List.Sums.{length-filter}
use Rattle.arb_model.proofs.CountLaws.{count_by_none, count_by_same, count_by_split}
use Rattle.arb_seats.proofs.SlotsLaws.{slot_with, slot_counts, once_known, threads_left, first_thread, remove_at}

-- where each number stands in a list once at most, of n numbers there are no more than n
abbrev is_among : (base n x : ℕ) → Bool
is_among base n x = nat_le base x && nat_lt x (base + n)

few_among : (base n : ℕ) (xs : List ℕ) → ((t : ℕ) → times_waiting t xs ≤ 1) → count_by (is_among base n) xs ≤ n
few_among base zero xs once = omega (arith, count_by_none (is_among base 0) xs (λ x. grind (arith, nat_tests)))
few_among base (suc n) xs once =
    omega (arith, few_among base n xs once, once (base + n), count_by_split (is_among base (suc n)) (is_among base n) (λ x. x == base + n) xs (λ x. grind (arith, nat_tests)))

-- a slot is the least of the slots of an application's threads, if any has one
abbrev pub IsLeast : List ℕ → (app v : ℕ) → Type 0
IsLeast slot_of app v =
    ((k : ℕ) → k < threads → v ≤ get_or slot_of (app * threads + k) 0) × (v < slot_count → (k : ℕ) × (k < threads) × (get_or slot_of (app * threads + k) 0 ≡ v))

-- what is known of the thread t in the first slot v of an application
pub record IsFirst (app v t : ℕ) (slots : List ℕ) : Type 0 where
  pub inside : v < length slots
  pub small : t < all_threads
  pub present : 0 < times_waiting t (threads_in slots)
  pub value : t ≡ get_or (threads_in slots) (position_or_len (λ y. app_of y == app) (threads_in slots)) 0
  pub others : filter (λ y. not (y == t)) (threads_in slots) ≡ remove (threads_in slots) (position_or_len (λ y. app_of y == app) (threads_in slots))

-- a queue, of all its slots
module _ {slots slot_of counts : List ℕ} (w : IsQueue slots slot_of counts) where
  -- a thread waits in one slot at most
  once : (t : ℕ) → times_waiting t (threads_in slots) ≤ 1
  once = once_known slots slot_of w.known

  -- it has room for all threads, and of each application no more wait than it may have threads
  pub queue_bounds : (length (threads_in slots) ≤ all_threads) × ((app : ℕ) → app < applications → get_or counts app 0 ≤ threads)
  queue_bounds =
      let among = is_among 0 all_threads in
      let all = count_by_same is_thread (λ x. is_thread x && among x) slots (λ x. grind (arith, nat_tests)) in
      let of : (app x : ℕ) → one_if (app_of x == app) ≤ one_if (is_among (app * threads) threads x) = λ app x. grind (arith, nat_tests) in (
        omega (arith, few_among 0 all_threads (threads_in slots) once, length-filter is_thread slots, count_by_filter among is_thread slots),
        λ app h. omega (arith, w.counted app h, few_among (app * threads) threads (threads_in slots) once, sum_by-le-sum_by _ _ (threads_in slots) (of app)),
      )

  -- the slot of a thread that waits
  pub slot_there : (t : ℕ) → 0 < times_waiting t (threads_in slots) → (get_or slot_of t 0 < length slots) × (get_or slots (get_or slot_of t 0) 0 ≡ t)
  slot_there t some = grind (arith, slot_with, eqb-true)

  -- a thread that waits is counted
  pub counts_some : (t : ℕ) → t < all_threads → 0 < times_waiting t (threads_in slots) → 1 ≤ get_or counts (t / threads) 0
  counts_some t small some =
      let there = slot_there t some in grind (arith, slot_counts (λ y. app_of y == t / threads) slots (get_or slot_of t 0) there.0)

  -- the least of the slots of an application's threads is the first slot with a thread of it, and that one is the longest waiting
  first_of : (app v : ℕ) → IsLeast slot_of app v → length slots ≤ slot_count → app < applications → 0 < waiting_count app (threads_in slots) → IsFirst app v (get_or slots v 0) slots
  first_of app v least long few some =
      let t : ℕ = get_or slots v 0 in
      let turn : ℕ = position_or_len (λ y. app_of y == app) (threads_in slots) in
      let r = slot_with (λ y. app_of y == app) slots some in
      let o = least.1 (grind (arith, least.0 (get_or slots r.0 0 - app * threads))) in
      let there : (v < length slots) × (t ≡ app * threads + o.0) = grind (arith, w.absent (app * threads + o.0), slot_there (app * threads + o.0)) in
      let small : t < all_threads = omega arith in
      let first : get_or (threads_in slots) turn 0 ≡ t = first_thread app slots v t there.0 refl small (grind arith) (λ q less live. grind arith) in
      record {
        inside = there.0;
        small = small;
        present = slot_counts (λ y. y == t) slots v there.0 small (eq-eqb t t refl);
        value = sym first;
        others = grind (arith, remove_at (threads_in slots) turn (position_or_len-lt (λ y. app_of y == app) (threads_in slots) some) once);
      }

-- a queue, of its first slots
module _ (slots : List ℕ) {slot_of counts : List ℕ} (len : ℕ) (w : IsQueue (take len slots) slot_of counts) where
  -- the queue after one more
  pub queue_more : (t : ℕ) → len < length slots → length slot_of ≡ all_threads → length counts ≡ applications → t < all_threads → times_waiting t (threads_in (take len slots)) ≡ 0
      → IsQueue (take (len + 1) (set slots len t)) (set slot_of t len) (set counts (t / threads) (get_or counts (t / threads) 0 + 1))
  queue_more t within places apps small none =
      let long = length-take-le len slots (omega arith) in
      rw (take_more_set slots len t within)
      (grind (arith, long, get_or_append_left, slot_counts, eq-eqb, get_or-set_other, length_push, get_or_push, get_or-set_same, filter-append, sum_by_push))

  module _ (within : len ≤ length slots) where
    long : length (take len slots) ≡ len
    long = length-take-le len slots within

    -- the queue after a thread left, and the threads
    module _ (t : ℕ) (small : t < all_threads) (some : 0 < times_waiting t (threads_in (take len slots))) where
      there : (get_or slot_of t 0 < len) × (get_or (take len slots) (get_or slot_of t 0) 0 ≡ t)
      there = let at = slot_there w t some in (omega (arith, long), at.1)

      pub queue_left : length slot_of ≡ all_threads → length counts ≡ applications
          → IsQueue (take len (set slots (get_or slot_of t 0) all_threads)) (set slot_of t slot_count) (set counts (t / threads) (get_or counts (t / threads) 0 - 1))
      queue_left places apps =
          rw (take-set-lt len slots (get_or slot_of t 0) all_threads there.0)
          (grind (arith, there, long, length-set, get_or-set_same, get_or-set_other, lt-ltb, count_by_filter, sum_by-set))

      pub threads_after : threads_in (take len (set slots (get_or slot_of t 0) all_threads)) ≡ filter (λ y. not (y == t)) (threads_in (take len slots))
      threads_after = grind (arith, take-set-lt, there, long, threads_left (take len slots) (get_or slot_of t 0) t, once w t)

    -- the thread in the first slot of an application is the longest waiting of it
    pub first_is : (app v : ℕ) → len ≤ slot_count → app < applications → 0 < waiting_count app (threads_in (take len slots)) → IsLeast slot_of app v → IsFirst app v (get_or slots v 0) (take len slots)
    first_is app v full few some least =
        let f = first_of w app v least (omega (arith, long)) few some in rw (get_or-take len slots v 0 (omega (arith, long))) at f
