-- Laws of the sets that are kept beside the cores of a machine.
use Rattle.arb_seats.proofs.Words.{Cores, ◌≡◌, ℕ, ◌<◌, ◌≤◌, List, length, set, take, replicate, refl, arith, Option, Some, None, Bool, true, false, MatchOption, slice_index, ◌&&◌, ◌==◌, if◌then◌else◌}
use Rattle.arb_seats.proofs.Words.{is_some, nat_lt, nat_tests, eq-eqb, lt-ltb, le-ltb, length-replicate, written, IsMachine, Machine, cores_of, socket_by_position, Holder, has_bit}
use Rattle.arb_seats.proofs.Words.{IsSetOf, set_size, CoreTable, asked_since, given_to, app_of, holder_at, is_asked, is_free, is_held_by, is_of, is_asked_of, and_false, take-set-lt, get_or-same}
use Rattle.arb_seats.proofs.Words.{all_threads, applications, ◌+◌, ap, count_below-le, count_below-none, one_if, owned_on}
use Rattle.arb_model.proofs.CountLaws.{count_below-some}
use Rattle.std.proofs.lemmas.List.{take-replicate}
use Rattle.arb_config.specs.Limits.{max_sockets}
use Rattle.arb_seats.specs.CoreSets.{AreSets}
use Rattle.arb_seats.specs.SocketCounts.{HasOneMore, count_at}
use Rattle.arb_seats.proofs.PositionSetsLaws.{set-none, set-same}
use Rattle.arb_seats.proofs.SocketCountsLaws.{held_of, is_there, owned_on-set}

-- the positions of the cores that pass a test
abbrev AreWhere : (Option Holder → Bool) → Cores → ℕ → Type 0
AreWhere test cores word = IsSetOf word (length cores) (λ p. test (holder_at cores p))

-- what a mark of a place for a thread does to the sets
abbrev pub Marks : (position thread : ℕ) → (on : Bool) → (old new : List ℕ) → Type 0
Marks position thread on old new =
    (app p : ℕ) → app < applications → p < set_size → has_bit (slice_index new app) p ≡ (if (app_of thread == app) && (p == position) then on else has_bit (slice_index old app) p)

-- the bit of a position follows the core there
abbrev Follows : (Option Holder → Bool) → (position : ℕ) → Option Holder → (old new : ℕ) → Type 0
Follows test position core old new = (p : ℕ) → p < set_size → has_bit new p ≡ (if p == position then test core else has_bit old p)

follows : (test : Option Holder → Bool) (cores : Cores) (core : Option Holder) {position word after : ℕ} → position < length cores → length cores ≤ set_size → AreWhere test cores word
    → Follows test position core word after → AreWhere test (set cores position core) after
follows test cores core within few s one = grind (arith, written)

module _ {m : Machine} {cores : Cores} {on_socket owned_by asked counts : List ℕ} {free : ℕ} (s : AreSets m cores on_socket owned_by asked free counts) where
  pub few_cores : length cores ≤ set_size
  few_cores = omega (arith, s.one_each, s.is_machine.few_managed)

  pub counts_few : (app socket : ℕ) → app < applications → socket < max_sockets → count_at counts app socket ≤ set_size
  counts_few app socket low high =
      let few : owned_on (socket_by_position m) cores app socket ≤ length cores = count_below-le _ _ in
      omega (arith, s.are_counted app socket low high, few, few_cores)

  -- the core of a thread is counted
  pub counts_some : (thread position socket : ℕ) → thread < all_threads → position < length cores → is_held_by thread (holder_at cores position) ≡ true
      → socket ≡ slice_index (socket_by_position m) position → socket < max_sockets → 0 < count_at counts (app_of thread) socket
  counts_some thread position socket low within held is high =
      let some : 0 < owned_on (socket_by_position m) cores (app_of thread) socket = count_below-some _ _ position within (grind (arith, nat_tests, held_of)) in
      omega (arith, s.are_counted (app_of thread) socket (omega (arith, low)) high, some)

-- the cores of a machine, of an array that has more
abbrev pub managed : Machine → Cores → Cores
managed m owners = take (length (cores_of m)) owners

-- the sets beside the cores of a machine, once one core is another
module _ {m : Machine} (owners : Cores) {on_socket owned_by asked counts : List ℕ} {free : ℕ} (s : AreSets m (managed m owners) on_socket owned_by asked free counts)
    {position : ℕ} (within : position < length (managed m owners)) where
  -- whether an application owns a core, where the position is on a socket
  abbrev is_on : (app socket : ℕ) → Option Holder → Bool
  is_on app socket core = is_there (socket_by_position m) position app socket core

  sets_after : (core : Option Holder) (owned_last asked_last : List ℕ) (free_last : ℕ) (counts_last : List ℕ) → MatchOption core (Unit {0}) (λ holder. holder.thread < all_threads)
      → ((app : ℕ) → app < applications → Follows (is_of app) position core (slice_index owned_by app) (slice_index owned_last app))
      → ((app : ℕ) → app < applications → Follows (is_asked_of app) position core (slice_index asked app) (slice_index asked_last app))
      → Follows is_free position core free free_last
      → ((app socket : ℕ) → app < applications → socket < max_sockets
      → count_at counts_last app socket + one_if (is_on app socket (holder_at (managed m owners) position)) ≡ count_at counts app socket + one_if (is_on app socket core))
      → AreSets m (managed m (set owners position core)) on_socket owned_last asked_last free_last counts_last
  sets_after core owned_last asked_last free_last counts_last thread owned back one count =
      let same : managed m (set owners position core) ≡ set (managed m owners) position core = grind (arith, take-set-lt) in
      rw same (record {
        is_machine = s.is_machine;
        one_each = grind (arith, written);
        threads = λ p. grind (arith, written);
        are_on = λ socket low. grind (arith, written);
        are_owned = λ app low. follows (is_of app) (managed m owners) core within (few_cores s) (s.are_owned app low) (owned app low);
        are_asked = λ app low. follows (is_asked_of app) (managed m owners) core within (few_cores s) (s.are_asked app low) (back app low);
        are_free = follows is_free (managed m owners) core within (few_cores s) s.are_free one;
        are_counted = λ app socket low high. omega (arith, s.are_counted app socket low high, count app socket low high, owned_on-set (socket_by_position m) (managed m owners) core app socket within);
      })

  -- a free core is given to a thread, and asked of nobody
  pub sets_given : {thread : ℕ} {owned_last counts_last : List ℕ} {free_last : ℕ} → thread < all_threads → holder_at (managed m owners) position ≡ None → Marks position thread true owned_by owned_last
      → Follows is_free position (given_to thread) free free_last → HasOneMore (app_of thread) (slice_index (socket_by_position m) position) counts counts_last
      → AreSets m (managed m (set owners position (given_to thread))) on_socket owned_last asked free_last counts_last
  sets_given {thread} {owned_last} {counts_last} {free_last} low empty marks =
      let after = sets_after (given_to thread) owned_last asked free_last counts_last low (λ app few. grind arith) (λ app few. grind arith) in
      λ one more.
      after one (λ app socket few high. omega (arith, more app socket high, ap (λ core. one_if (is_on app socket core)) empty))

  -- the core of a thread becomes free
  pub sets_freed : (thread : ℕ) {owned_last asked_last counts_last : List ℕ} {free_last : ℕ} → is_held_by thread (holder_at (managed m owners) position) ≡ true
      → Marks position thread false owned_by owned_last → Marks position thread false asked asked_last
      → Follows is_free position None free free_last → HasOneMore (app_of thread) (slice_index (socket_by_position m) position) counts_last counts
      → AreSets m (managed m (set owners position None)) on_socket owned_last asked_last free_last counts_last
  sets_freed thread {owned_last} {asked_last} {counts_last} {free_last} held owned_marks asked_marks =
      let after = sets_after None owned_last asked_last free_last counts_last tt (λ app few. grind (arith, written)) (λ app few. grind (arith, written)) in
      λ one more.
      after one (λ app socket few high. omega (arith, more app socket high, ap (λ passes. one_if (passes && (slice_index (socket_by_position m) position == socket))) (held_of app thread _ held)))

  -- a core that isn't asked back is in no set of asked positions, so that none changes where it becomes free
  pub marks_unasked : (thread : ℕ) → is_asked (holder_at (managed m owners) position) ≡ false → Marks position thread false asked asked
  marks_unasked thread off = λ app p few low. grind (arith, nat_tests, (s.are_asked app few).inside position within, off, and_false)

  -- a core is asked back of its holder, or no longer: that changes the sets of asked positions alone
  pub sets_asked : (holder : Holder) (since : Option ℕ) {asked_last : List ℕ} → holder_at (managed m owners) position ≡ Some holder
      → Marks position holder.thread (is_some since) asked asked_last → AreSets m (managed m (set owners position (asked_since holder since))) on_socket owned_by asked_last free counts
  sets_asked holder since {asked_last} at marks =
      sets_after (asked_since holder since) owned_by asked_last free counts (grind arith) (λ app few. grind arith)
      (λ app few. grind arith) (grind arith) (λ app socket few high. ap (λ core. count_at counts app socket + one_if (is_on app socket core)) at)

-- a table of its parts
abbrev pub table : Machine → Cores → CoreTable
table m cores = record { machine = m; cores = cores }

-- so many free cores
abbrev pub all_free : ℕ → Cores
all_free n = replicate n None

-- the table of free cores
pub table-opening : {m t : Machine} → m ≡ t → IsMachine t → table m (managed m (all_free set_size)) ≡ table t (all_free (length (cores_of t)))
table-opening {t = t} e is = rw (e, take-replicate {X = Option Holder} (length (cores_of t)) set_size None is.few_managed) refl

-- the sets beside free cores, as an array has them
pub sets-opening : {m t : Machine} {on_socket counts : List ℕ} {free : ℕ} → m ≡ t → IsMachine t
    → ((socket : ℕ) → socket < max_sockets → IsSetOf (slice_index on_socket socket) (length (cores_of t)) (λ p. slice_index (socket_by_position t) p == socket))
    → ((p : ℕ) → p < set_size → has_bit free p ≡ nat_lt p (length (cores_of t)))
    → ((app socket : ℕ) → count_at counts app socket ≡ 0)
    → AreSets m (managed m (all_free set_size)) on_socket (replicate applications 0) (replicate applications 0) free counts
sets-opening {t = t} e is are_on clear none =
    rw (e, take-replicate {X = Option Holder} (length (cores_of t)) set_size None is.few_managed)
    (grind (arith, nat_tests, length-replicate, get_or-same, set-same, set-none, lt-ltb, le-ltb, none, count_below-none))

-- the positions that are asked of any application
pub asked_of_any : {machine : Machine} {cores : Cores} {on_socket owned_by asked counts : List ℕ} {free word : ℕ} → AreSets machine cores on_socket owned_by asked free counts
    → ((p app : ℕ) → app < applications → has_bit (slice_index asked app) p ≡ true → has_bit word p ≡ true)
    → ((p : ℕ) → ((app : ℕ) → app < applications → has_bit (slice_index asked app) p ≡ false) → has_bit word p ≡ false) → AreWhere is_asked cores word
asked_of_any {cores = cores} {asked = asked} {word = word} s holds none = record { inside = λ p less. at p less (holder_at cores p) refl (s.threads p); outside = grind (arith, none, s.are_asked) }
  where
    nobody : (p : ℕ) → p < length cores → is_asked (holder_at cores p) ≡ false → has_bit word p ≡ false
    nobody p less off = none p (λ app few. grind (arith, (s.are_asked app few).inside p less, off, and_false))

    at : (p : ℕ) → p < length cores → (core : Option Holder) → holder_at cores p ≡ core → MatchOption core (Unit {0}) (λ holder. holder.thread < all_threads)
        → has_bit word p ≡ is_asked (holder_at cores p)
    at p less None e h = grind (arith, nobody p less, e)
    at p less (Some holder) e h = grind (arith, nobody p less, holds p (app_of holder.thread), (s.are_asked (app_of holder.thread) (omega (arith, h))).inside p less, e, eq-eqb)
