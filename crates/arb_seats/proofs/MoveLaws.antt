-- The three moves of one thread, and the page words that show the seats after each: it is taken out from wherever it is, it is put on a spot, and its core is asked back or not.
use Rattle.arb_seats.proofs.Words.{◌≡◌, ℕ, ◌+◌, ◌<◌, ◌≤◌, List, [], ◌∷◌, ◌++◌, filter, not, length, set, arith, Option, Some, None, Bool, true, false, slice_index, slice_index_or, ◌==◌, if◌then◌else◌}
use Rattle.arb_seats.proofs.Words.{is_some, remove, refl, inl, inr, sym, ◌∙◌, cases_eq, get_or-set_same, get_or-set_other, get_or_past, same_lists, written, length-set, sum_by-set, sum_by_push}
use Rattle.arb_seats.proofs.Words.{one_if, Holder, all_threads, next_core, position_or_len, core_word, half_number, half_of, halves, moved_word, place_index, release_index, unmanaged_word}
use Rattle.arb_seats.proofs.Words.{waiting_word, Seats, app_of, holder_at, is_held_by, is_moved, is_waiting, times_placed, times_on, times_waiting, is_asked, is_asked_of, place_word, release_word, any_counted}
use Rattle.arb_seats.proofs.Words.{count_by_filter, seats, held_counts, asked_since, given_to, PageWords, ShowsSeats}
use Rattle.std.proofs.lemmas.List.Sums.{sum_by-remove}
use Rattle.arb_model.specs.Grants.{granted}
use Rattle.arb_model.proofs.CountLaws.{count_by_none, count_by_same}
use Rattle.arb_seats.specs.Tells.{Tells}
use Rattle.arb_seats.proofs.PlaceWordsLaws.{Stays, held_within, place_on, place_tells, stays_placed, stays_word, word_moved, word_nowhere, word_waiting}
use Rattle.arb_seats.proofs.ReleaseWordsLaws.{half_within, release_others, release_set}

-- the page words with one of them changed
abbrev pub with_word : PageWords → ℕ → ℕ → PageWords
with_word pages w value = record { words = set pages.words w value; posted = pages.posted }

-- page words show some seats once the place word of a thread is set
abbrev pub ShowsAt : PageWords → (thread word : ℕ) → Seats → Type 0
ShowsAt pages thread word after = ShowsSeats after (with_word pages (place_index thread) word)

-- and once its place word and its application's release word for the half of a core are set
abbrev pub ShowsCore : PageWords → (p thread : ℕ) → Seats → Type 0
ShowsCore pages p thread after =
    let half : ℕ = half_number (half_of p) in
    ShowsSeats after (with_word (with_word pages (place_index thread) (place_word after thread)) (release_index (app_of thread) half) (release_word after (app_of thread) half))

-- what a move does: one thread alone is somewhere else, or nowhere
pub record MovesOne (s after : Seats) (thread : ℕ) : Type 0 where
  pub cores : length after.cores ≡ length s.cores
  pub marks : length after.moved ≡ length s.moved
  pub own : times_placed after thread ≤ 1
  pub stays : (t : ℕ) → (t ≡ thread → ⊥) → Stays s after t

module _ {s after : Seats} {pages : PageWords} {thread : ℕ} (h : ShowsSeats s pages) (m : MovesOne s after thread) (less : thread < all_threads) where
  -- the place words once that of the thread was set
  place_set : (t : ℕ) → t < all_threads → slice_index (set pages.words (place_index thread) (place_word after thread)) (place_index t) ≡ place_word after t
  place_set t lt = grind (arith, stays_word, written)

  once_after : (t : ℕ) → (times_placed after t ≤ 1) × (0 < times_placed after t → t < all_threads)
  once_after t = grind (arith, stays_placed)

  -- its place word is set, where no release word changes
  pub shown_place : (word : ℕ) → place_word after thread ≡ word → ((app half : ℕ) → half < halves → release_word after app half ≡ release_word s app half) → ShowsAt pages thread word after
  shown_place word is same = grind (arith, once_after, place_set, written)

  -- its place word is set, and the release word of its application for a core's half
  pub shown_both : (p : ℕ) → ((a k : ℕ) → k < halves → ((a ≡ app_of thread) × (k ≡ half_number (half_of p)) → ⊥) → release_word after a k ≡ release_word s a k) → ShowsCore pages p thread after
  shown_both p same =
      let half : ℕ = half_number (half_of p) in
      let low : half < halves = half_within (half_of p) in
      let w : ℕ = release_index (app_of thread) half in
      let first : List ℕ = set pages.words (place_index thread) (place_word after thread) in
      record {
        once = λ t. (once_after t).0;
        threads = λ t. (once_after t).1;
        marks = grind arith;
        long = grind (arith, written);
        full = h.full;
        entered = grind (arith, written);
        places = λ t lt. grind (arith, place_set t lt, written);
        releases = λ a k lt under. elim (cases_eq (release_index a k) w) [
          | inl e ↦
              let own : (a ≡ app_of thread) × (k ≡ half) = omega (arith, e, under, low) in
              rw (own.0, own.1) (get_or-set_same first w _ 0 (grind (arith, written)))
          | inr ne ↦
              get_or-set_other first w (release_index a k) _ 0 ne ∙ get_or-set_other pages.words (place_index thread) (release_index a k) _ 0 (omega arith) ∙ h.releases a k lt under
              ∙ sym (same a k under (λ own. ne (omega (arith, own.0, own.1))))
        ];
      }

-- the seats with another core
abbrev pub core_after : Seats → (p : ℕ) → Option Holder → Seats
core_after s p core = seats (set s.cores p core) s.waiting s.moved

-- who is left where one thread leaves the waiting ones
rests : (waiting : List ℕ) (thread t : ℕ) → times_waiting t (filter (λ u. not (u == thread)) waiting) ≡ (if t == thread then 0 else times_waiting t waiting)
rests waiting thread t = grind (arith, count_by_filter, count_by_none, count_by_same)

module _ {s : Seats} {pages : PageWords} (h : ShowsSeats s pages) where
  -- what the page word of a thread's place tells
  pub word_tells : (thread : ℕ) → thread < all_threads → Tells s thread (slice_index pages.words (place_index thread))
  word_tells thread less = rw (h.places thread less) (place_tells s thread (h.once thread))

  -- whoever is on a core is a thread
  held_is_thread : (p thread : ℕ) → is_held_by thread (holder_at s.cores p) ≡ true → thread < all_threads
  held_is_thread p thread on = h.threads thread (omega (arith, held_counts thread s.cores p on))

  pub holder_is_thread : (p : ℕ) (holder : Holder) → holder_at s.cores p ≡ Some holder → holder.thread < all_threads
  holder_is_thread p holder at = held_is_thread p holder.thread (grind arith)

  -- one thread waits or was moved, or no longer
  aside : (thread : ℕ) (waiting : List ℕ) (moved : List Bool) (word : ℕ) → thread < all_threads → length moved ≡ length s.moved → times_placed (seats s.cores waiting moved) thread ≤ 1
      → ((t : ℕ) → (t ≡ thread → ⊥) → (times_waiting t waiting ≡ times_waiting t s.waiting) × (slice_index_or moved t false ≡ slice_index_or s.moved t false))
      → place_word (seats s.cores waiting moved) thread ≡ word → ShowsAt pages thread word (seats s.cores waiting moved)
  aside thread waiting moved word less long own others is =
      shown_place h (record { cores = refl; marks = long; own = own; stays = λ t ne. grind (arith, others t ne) }) less word is (grind arith)

  -- taken out: a moved thread, a waiting one, and one on a core
  pub taken_moved : (thread : ℕ) → thread < all_threads → is_moved s thread ≡ true → ShowsAt pages thread unmanaged_word (seats s.cores s.waiting (set s.moved thread false))
  taken_moved thread less was =
      let now : Seats = seats s.cores s.waiting (set s.moved thread false) in
      let none : times_placed now thread ≡ 0 = grind (arith, written) in
      aside thread s.waiting now.moved unmanaged_word less (length-set s.moved thread false) (omega (arith, none)) (grind (arith, written)) (word_nowhere now thread none)

  pub taken_waiting : (thread : ℕ) (rest : List ℕ) → thread < all_threads → 0 < times_waiting thread s.waiting → times_waiting thread rest ≡ 0
      → ((t : ℕ) → (t ≡ thread → ⊥) → times_waiting t rest ≡ times_waiting t s.waiting) → ShowsAt pages thread unmanaged_word (seats s.cores rest s.moved)
  taken_waiting thread rest less some none others =
      let gone : times_placed (seats s.cores rest s.moved) thread ≡ 0 = omega (arith, h.once thread) in
      aside thread rest s.moved unmanaged_word less refl (omega (arith, gone)) (λ t ne. (others t ne, refl)) (word_nowhere (seats s.cores rest s.moved) thread gone)

  pub taken_queued : (thread : ℕ) → thread < all_threads → 0 < times_waiting thread s.waiting
      → ShowsAt pages thread unmanaged_word (seats s.cores (filter (λ t. not (t == thread)) s.waiting) s.moved)
  taken_queued thread less some = taken_waiting thread _ less some (grind (arith, rests s.waiting thread thread)) (λ t ne. grind (arith, rests s.waiting thread t))

  -- put on a spot: moved, waiting behind all others, and on a free core
  pub put_moved : (thread : ℕ) → thread < all_threads → times_placed s thread ≡ 0 → ShowsAt pages thread moved_word (seats s.cores s.waiting (set s.moved thread true))
  put_moved thread less none =
      let now : Seats = seats s.cores s.waiting (set s.moved thread true) in
      let is : (times_placed now thread ≤ 1) × (is_moved now thread ≡ true) = grind (arith, written) in
      aside thread s.waiting now.moved moved_word less (length-set s.moved thread true) is.0 (grind (arith, written)) (word_moved now thread is.0 is.1)

  pub put_waiting : (thread : ℕ) → thread < all_threads → times_placed s thread ≡ 0 → ShowsAt pages thread waiting_word (seats s.cores (s.waiting ++ thread ∷ []) s.moved)
  put_waiting thread less none =
      let now : Seats = seats s.cores (s.waiting ++ thread ∷ []) s.moved in
      let more : (t : ℕ) → times_waiting t now.waiting ≡ times_waiting t s.waiting + one_if (thread == t) = λ t. sum_by_push (λ u. one_if (u == t)) s.waiting thread in
      let is : (times_placed now thread ≤ 1) × (is_waiting now thread ≡ true) = grind (arith, any_counted (λ t. t == thread) now.waiting, more thread) in
      aside thread now.waiting s.moved waiting_word less refl is.0 (λ t ne. grind (arith, more t)) (word_waiting now thread is.0 is.1)

  pub put_on : (thread p : ℕ) → thread < all_threads → times_placed s thread ≡ 0 → p < length s.cores → holder_at s.cores p ≡ None
      → ShowsAt pages thread (core_word p false) (core_after s p (given_to thread))
  put_on thread p less none inside empty =
      let core : Option Holder = given_to thread in
      let one : times_placed (core_after s p core) thread ≤ 1 = grind (arith, sum_by-set (λ o. one_if (is_held_by thread o)) s.cores p core None inside) in
      shown_place h (record {
        cores = length-set s.cores p core;
        marks = refl;
        own = one;
        stays = grind (arith, written);
      }) less (core_word p false) (grind (arith, place_on (core_after s p core) thread p, written)) (λ a half few. release_set s.cores p core a half (grind arith))

  -- the core of a thread becomes free or is marked: its place word and its application's release word show it
  core_shown : (p thread : ℕ) (core : Option Holder) → is_held_by thread (holder_at s.cores p) ≡ true → ((t : ℕ) → (t ≡ thread → ⊥) → is_held_by t core ≡ false)
      → ((a : ℕ) → (a ≡ app_of thread → ⊥) → is_asked_of a core ≡ false) → ShowsCore pages p thread (core_after s p core)
  core_shown p thread core on now apart =
      shown_both h (record {
        cores = length-set s.cores p core;
        marks = refl;
        own = grind (arith, get_or_past, sum_by-set);
        stays = grind (arith, get_or_past, written);
      }) (held_is_thread p thread on) p (release_others s.cores p core (app_of thread) (grind arith))

  -- taken out from a core
  pub taken_off : (p thread : ℕ) → is_held_by thread (holder_at s.cores p) ≡ true
      → (place_word (core_after s p None) thread ≡ unmanaged_word) × ShowsCore pages p thread (core_after s p None)
  taken_off p thread on =
      let none : times_placed (core_after s p None) thread ≡ 0 = grind (arith, sum_by-set, get_or_past) in
      (word_nowhere (core_after s p None) thread none, core_shown p thread None on (grind arith) (grind arith))

  -- and from one that isn't asked back: no release word changes
  pub taken_unasked : (p thread : ℕ) → is_held_by thread (holder_at s.cores p) ≡ true → is_asked (holder_at s.cores p) ≡ false
      → ShowsAt pages thread unmanaged_word (core_after s p None)
  taken_unasked p thread on off =
      let none : times_placed (core_after s p None) thread ≡ 0 = grind (arith, sum_by-set, get_or_past) in
      shown_place h (record {
        cores = length-set s.cores p None;
        marks = refl;
        own = omega (arith, none);
        stays = grind (arith, get_or_past, written);
      }) (held_is_thread p thread on) unmanaged_word (word_nowhere (core_after s p None) thread none) (λ a half few. release_set s.cores p None a half (grind (arith, off)))

  -- the core of a thread is asked back, or is not any more
  pub marked : (p : ℕ) (holder : Holder) (asked : Option ℕ) → holder_at s.cores p ≡ Some holder
      → (place_word (core_after s p (asked_since holder asked)) holder.thread ≡ core_word p (is_some asked)) × ShowsCore pages p holder.thread (core_after s p (asked_since holder asked))
  marked p holder asked at =
      let core : Option Holder = asked_since holder asked in
      let less : p < length s.cores = held_within s.cores p holder at in
      let same : times_on holder.thread (set s.cores p core) ≡ times_on holder.thread s.cores =
      grind (arith, sum_by-set (λ o. one_if (is_held_by holder.thread o)) s.cores p core None less) in (
        grind (arith, place_on (core_after s p core) holder.thread p, written),
        core_shown p holder.thread core (grind arith) (grind arith) (grind arith),
      )

set_twice : (xs : List ℕ) (i a b : ℕ) → set (set xs i a) i b ≡ set xs i b
set_twice xs i a b = grind (arith, same_lists, written)

-- a grant: a thread is taken out of the waiting ones, and put on a free core
pub shown_granted : {s : Seats} {pages : PageWords} (thread p turn : ℕ) → ShowsSeats s pages → thread < all_threads → turn < length s.waiting → thread ≡ slice_index s.waiting turn
    → p < length s.cores → holder_at s.cores p ≡ None → ShowsAt pages thread (core_word p false) (seats (set s.cores p (given_to thread)) (remove s.waiting turn) s.moved)
shown_granted {s} {pages} thread p turn h less waits is inside empty =
    let rest : List ℕ = remove s.waiting turn in
    let count : (t : ℕ) → times_waiting t rest + one_if (thread == t) ≡ times_waiting t s.waiting = grind (arith, sum_by-remove) in
    let own : (0 < times_waiting thread s.waiting) × (times_waiting thread rest ≡ 0) = grind (arith, count thread, h.once thread) in
    let out = taken_waiting h thread rest less own.0 own.1 (λ t ne. grind (arith, count t)) in
    rw set_twice at (put_on out thread p less (omega (arith, h.once thread, own)) inside empty)

-- the same in the words of the model
pub granted_now : (sockets : List ℕ) (app : ℕ) (s : Seats) (p thread turn : ℕ) → p ≡ next_core sockets s.cores app → turn ≡ position_or_len (λ t. app_of t == app) s.waiting
    → thread ≡ slice_index s.waiting turn → seats (set s.cores p (given_to thread)) (remove s.waiting turn) s.moved ≡ granted sockets app s
unfolding granted
granted_now sockets app s p thread turn is_next is_turn is_first = grind arith
