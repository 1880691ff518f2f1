-- What it takes for one thread to leave its place, by the place that it is in.
use Rattle.arb_seats.proofs.Words.{Cores, ◌≡◌, ℕ, ◌+◌, ◌<◌, ◌≤◌, List, [], ◌∷◌, length, set, map, filter, refl, arith, ap, ◌∙◌, Option, None, Bool, true, false, not, slice_index_or, nat_le}
use Rattle.arb_seats.proofs.Words.{nat_lt, ◌==◌, ◌&&◌, ◌||◌, lt-ltb, le-ltb, lt-leb, le-leb, eq-eqb, ne_eqb, get_or_past, same_lists, ext_get_or, length-map, get_or-map, get_or_default, written}
use Rattle.arb_seats.proofs.Words.{nat_tests, Holder, free_if, unplaced, each_at, Seats, holder_at, is_held_by, is_moved, times_placed, times_on, times_waiting, and_true, seats}
use Rattle.arb_seats.proofs.Words.{get_or-each_at, length-each_at, held_counts}
use Rattle.std.proofs.lemmas.Simd.{map-map}
use Rattle.arb_seats.proofs.PlaceWordsLaws.{held_once, none_held}
use Rattle.arb_seats.proofs.SlotsLaws.{filter_absent}

-- whether a thread's number is from one number on and below another
abbrev pub is_between : (from to thread : ℕ) → Bool
is_between from to thread = nat_le from thread && nat_lt thread to

-- a core that becomes free where a thread holds it
abbrev free_of : ℕ → Option Holder → Option Holder
free_of thread = free_if (λ holder. holder.thread == thread)

-- the cores where nobody leaves
pub cores_left : (thread : ℕ) (cores : Cores) → times_on thread cores ≡ 0 → map (free_of thread) cores ≡ cores
cores_left thread cores none =
    ext_get_or None _ cores (length-map cores (free_of thread)) (λ q less. grind (arith, get_or-map (free_of thread) cores q None None, length-map, none_held cores q thread none))

-- the cores where the thread on one core leaves
pub cores_freed : (thread : ℕ) (cores : Cores) (p : ℕ) → times_on thread cores ≤ 1 → p < length cores → is_held_by thread (holder_at cores p) ≡ true
    → map (free_of thread) cores ≡ set cores p None
cores_freed thread cores p once less on =
    ext_get_or None (map (free_of thread) cores) (set cores p None) (grind (arith, length-map, written))
    (λ q inside. grind (arith, get_or-map (free_of thread) cores q None None, length-map, held_once thread cores p q once less on, written))

-- the marks after one thread lost its own
pub marks_cleared : (thread : ℕ) (marks : List Bool) → each_at (λ t was. was && not (t == thread)) 0 marks ≡ set marks thread false
marks_cleared thread marks = grind (arith, same_lists, length-each_at, get_or-each_at, written)

-- a mark that isn't there is not taken away
pub marks_left : (thread : ℕ) (marks : List Bool) → slice_index_or marks thread false ≡ false → each_at (λ t was. was && not (t == thread)) 0 marks ≡ marks
marks_left thread marks off = grind (arith, marks_cleared, same_lists, get_or_default, written)

-- a thread leaves the place that it is in, and that alone changes
module _ (s : Seats) (thread : ℕ) where
  pub unplaced_on : (p : ℕ) → times_placed s thread ≤ 1 → is_held_by thread (holder_at s.cores p) ≡ true → seats (set s.cores p None) s.waiting s.moved ≡ unplaced (λ t. t == thread) s
  unplaced_on p once on = grind (arith, held_counts, get_or_past, cores_freed thread s.cores p, filter_absent thread s.waiting, marks_left thread s.moved)

  pub unplaced_marked : times_placed s thread ≤ 1 → is_moved s thread ≡ true → seats s.cores s.waiting (set s.moved thread false) ≡ unplaced (λ t. t == thread) s
  unplaced_marked once mark = grind (arith, cores_left thread s.cores, filter_absent thread s.waiting, marks_cleared thread s.moved)

  pub unplaced_queued : times_placed s thread ≤ 1 → 0 < times_waiting thread s.waiting → seats s.cores (filter (λ t. not (t == thread)) s.waiting) s.moved ≡ unplaced (λ t. t == thread) s
  unplaced_queued once some = grind (arith, cores_left thread s.cores, marks_left thread s.moved)

  pub unplaced_nowhere : times_placed s thread ≡ 0 → s ≡ unplaced (λ t. t == thread) s
  unplaced_nowhere none = grind (arith, cores_left thread s.cores, filter_absent thread s.waiting, marks_left thread s.moved)

-- nobody leaves
pub unplaced_none : (goes : ℕ → Bool) (s : Seats) → ((t : ℕ) → goes t ≡ false) → unplaced goes s ≡ s
unplaced_none goes s none = λ j. seats (cores j) (waiting s.waiting j) (moved j)
  where
    cores : map (free_if (λ holder. goes holder.thread)) s.cores ≡ s.cores
    cores = ext_get_or None _ s.cores (length-map s.cores _) (λ q less. grind (arith, get_or-map (free_if (λ holder. goes holder.thread)) s.cores q None None, length-map, none))

    waiting : (xs : List ℕ) → filter (λ t. not (goes t)) xs ≡ xs
    waiting [] = refl
    waiting (x ∷ xs) = grind (arith, none x, waiting xs)

    moved : each_at (λ t was. was && not (goes t)) 0 s.moved ≡ s.moved
    moved = grind (arith, same_lists, length-each_at, get_or-each_at, none, and_true)

-- some threads leave, and then others
pub unplaced_also : (goes more all : ℕ → Bool) (s : Seats) → ((t : ℕ) → all t ≡ (goes t || more t)) → unplaced more (unplaced goes s) ≡ unplaced all s
unplaced_also goes more all s both = λ j. seats (cores j) (waiting s.waiting j) (moved 0 s.moved j)
  where
    frees : (core : Option Holder) → free_if (λ holder. more holder.thread) (free_if (λ holder. goes holder.thread) core) ≡ free_if (λ holder. all holder.thread) core
    frees core = grind (arith, nat_tests, both)

    cores : map (free_if (λ holder. more holder.thread)) (map (free_if (λ holder. goes holder.thread)) s.cores) ≡ map (free_if (λ holder. all holder.thread)) s.cores
    cores = map-map _ _ s.cores ∙ ap (λ (f : Option Holder → Option Holder). map f s.cores) (λ i core. frees core i)

    waiting : (xs : List ℕ) → filter (λ t. not (more t)) (filter (λ t. not (goes t)) xs) ≡ filter (λ t. not (all t)) xs
    waiting [] = refl
    waiting (x ∷ xs) = grind (arith, nat_tests, both x, waiting xs)

    moved : (k : ℕ) (xs : List Bool) → each_at (λ t was. was && not (more t)) k (each_at (λ t was. was && not (goes t)) k xs) ≡ each_at (λ t was. was && not (all t)) k xs
    moved k [] = refl
    moved k (x ∷ xs) = grind (arith, nat_tests, both k, moved (k + 1) xs)

-- one thread after another of a range leaves
pub unplaced_start : (from : ℕ) (s : Seats) → unplaced (is_between from from) s ≡ s
unplaced_start from s = grind (arith, unplaced_none, lt-leb, le-ltb)

pub unplaced_next : (from thread : ℕ) (s : Seats) → from ≤ thread → unplaced (λ t. t == thread) (unplaced (is_between from thread) s) ≡ unplaced (is_between from (thread + 1)) s
unplaced_next from thread s low = grind (arith, unplaced_also, le-leb, lt-ltb, eq-eqb, le-ltb, ne_eqb)
