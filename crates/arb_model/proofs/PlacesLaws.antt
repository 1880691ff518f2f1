-- How the parts of a step change the number of places that a thread is in.
use Rattle.std.proofs.lemmas.Grind.{common_steps}
use Rattle.std.proofs.lemmas.Bool.Decides.{nat_tests}
use Rattle.std.proofs.Common.{◌≡◌, ℕ, ◌+◌, ◌<◌, ◌≤◌, List, [], length, replicate, refl, arith, sym, ap, ◌∙◌, Option, None, Bool, true, false, not, inl, inr, slice_index_or}
use Rattle.std.specs.Prelude.{◌==◌, ◌&&◌, ◌||◌}
use Rattle.std.specs.List.{count_by, list_any}
use Rattle.std.proofs.lemmas.Bool.{cases_Bool, eqb-true, eq-eqb, ne_eqb, false≢true}
use Rattle.std.proofs.lemmas.List.{get_or_past, get_or-replicate, length-replicate}
use Rattle.std.proofs.lemmas.List.Sums.{sum_by-cons, sum_by-set, sum_by-remove, sum_by_push}
use Rattle.arb_model.specs.declared.holders.Holder.{Holder}
use Rattle.arb_model.specs.Asks.{after_asks, remarked}
use Rattle.arb_model.specs.Changes.{blocked, free_if, is_overdue, overdue_moved, unplaced}
use Rattle.arb_model.specs.Grants.{granted}
use Rattle.arb_model.specs.Lists.{each_at, one_if}
use Rattle.arb_model.specs.Standing.{Seats, free_count, holds, is_held_by, is_moved, waiting_count}
use Rattle.arb_model.specs.WellFormed.{times_placed, times_on}
use Rattle.arb_model.proofs.CountLaws.{and_false, and_true, any_counted, count_by_each_at, count_by_filter, count_by_map, count_by_none, count_by_same, count_by_split, or_false}
use Rattle.arb_model.proofs.GrantsLaws.{next_core-free}
use Rattle.arb_model.proofs.ListLaws.{get_or-each_at, length-each_at, position_or_len-lt}

-- the asks leave each thread where it is
pub held_remarked : (thread clock : ℕ) (asked : Bool) (core : Option Holder) → is_held_by thread (remarked clock asked core) ≡ is_held_by thread core
held_remarked thread clock asked core = grind (arith, nat_tests)

pub places_asked_back : (sockets due : List ℕ) (clock : ℕ) (s : Seats) (thread : ℕ) → times_placed (after_asks sockets due clock s) thread ≡ times_placed s thread
places_asked_back sockets due clock s thread = grind (arith, nat_tests, count_by_each_at, held_remarked)

pub places_granted : (sockets : List ℕ) (app : ℕ) (s : Seats) (thread : ℕ) → 0 < free_count s.cores → 0 < waiting_count app s.waiting → times_placed (granted sockets app s) thread ≡ times_placed s thread
unfolding granted
places_granted sockets app s thread free waits = grind (arith, nat_tests, common_steps, position_or_len-lt, next_core-free, sum_by-set, sum_by-remove)

-- a core that is freed by a test, or kept
held_freed : (test : Holder → Bool) (thread : ℕ) (core : Option Holder) → one_if (is_held_by thread core) ≡ one_if (is_held_by thread (free_if test core)) + one_if (holds (λ holder. test holder && (holder.thread == thread)) core)
held_freed test thread core = grind (arith, nat_tests)

-- threads that leave are nowhere; the others stay where they are
goes_off : (goes : ℕ → Bool) (thread : ℕ) → goes thread ≡ true → (core : Option Holder) → is_held_by thread (free_if (λ holder. goes holder.thread) core) ≡ false
goes_off goes thread h core = grind (arith, nat_tests, common_steps, false≢true, eqb-true)

stays_on : (goes : ℕ → Bool) (thread : ℕ) → goes thread ≡ false → (core : Option Holder) → is_held_by thread (free_if (λ holder. goes holder.thread) core) ≡ is_held_by thread core
stays_on goes thread h core = grind (arith, nat_tests, common_steps, false≢true, eqb-true)

stops_waiting : (goes : ℕ → Bool) (thread : ℕ) → goes thread ≡ true → (t : ℕ) → (not (goes t) && (t == thread)) ≡ false
stops_waiting goes thread h t = grind (arith, nat_tests, common_steps, and_false, eqb-true)

waits_on : (goes : ℕ → Bool) (thread : ℕ) → goes thread ≡ false → (t : ℕ) → (not (goes t) && (t == thread)) ≡ (t == thread)
waits_on goes thread h t = grind (arith, nat_tests, common_steps, and_false, eqb-true)

-- a flag of a list that was written place by place
flag_each_at : (f : ℕ → Bool → Bool) (flags : List Bool) (t : ℕ) → t < length flags → slice_index_or (each_at f 0 flags) t false ≡ f t (slice_index_or flags t false)
flag_each_at f flags t h = get_or-each_at f flags t false false h

flag_kept : (goes : ℕ → Bool) (flags : List Bool) (t : ℕ) → slice_index_or (each_at (λ thread was. was && not (goes thread)) 0 flags) t false ≡ (slice_index_or flags t false && not (goes t))
flag_kept goes flags t = grind (arith, nat_tests, common_steps, flag_each_at, get_or_past, length-each_at)

pub places_unplaced_goes : (goes : ℕ → Bool) (s : Seats) (thread : ℕ) → goes thread ≡ true → times_placed (unplaced goes s) thread ≡ 0
places_unplaced_goes goes s thread h = grind (arith, nat_tests, count_by_map, count_by_none, goes_off, count_by_filter, stops_waiting, flag_kept, and_false)

pub places_unplaced_stays : (goes : ℕ → Bool) (s : Seats) (thread : ℕ) → goes thread ≡ false → times_placed (unplaced goes s) thread ≡ times_placed s thread
places_unplaced_stays goes s thread h = grind (arith, nat_tests, common_steps, count_by_map, count_by_same, stays_on, count_by_filter, waits_on, flag_kept, and_true)

-- a thread that blocks is in one place, and the others stay where they are
pub places_blocked_own : (thread : ℕ) (s : Seats) → times_placed (blocked thread s) thread ≡ 1
places_blocked_own thread s = grind (arith, nat_tests, common_steps, eq-eqb, places_unplaced_goes, sum_by_push)

pub places_blocked_other : (client : ℕ) (s : Seats) (thread : ℕ) → (thread ≡ client → ⊥) → times_placed (blocked client s) thread ≡ times_placed s thread
places_blocked_other client s thread ne = grind (arith, nat_tests, common_steps, ne_eqb, places_unplaced_stays, sum_by_push)

-- a thread on a core that is overdue is off it then, and on any other it stays
on_or_gone : (grace moment : ℕ) (s : Seats) (thread : ℕ) → times_on thread s.cores ≡ times_on thread (overdue_moved grace moment s).cores + count_by (holds (λ holder. is_overdue grace moment holder && (holder.thread == thread))) s.cores
on_or_gone grace moment s thread =
    let gone : Option Holder → Bool = holds (λ holder. is_overdue grace moment holder && (holder.thread == thread)) in
    let stays : Option Holder → Bool = λ core. is_held_by thread (free_if (is_overdue grace moment) core) in
    count_by_split (is_held_by thread) stays gone s.cores (held_freed (is_overdue grace moment) thread)
    ∙ ap (λ n. n + count_by gone s.cores) (sym (count_by_map (is_held_by thread) (free_if (is_overdue grace moment)) s.cores))

-- a thread that is moved was on its core alone, so it is in one place still
pub places_overdue_moved : (grace moment : ℕ) (s : Seats) (thread : ℕ) → thread < length s.moved → times_placed s thread ≤ 1 → times_placed (overdue_moved grace moment s) thread ≡ times_placed s thread
places_overdue_moved grace moment s thread within once =
    let gone : Option Holder → Bool = holds (λ holder. is_overdue grace moment holder && (holder.thread == thread)) in
    let mark : ℕ → Bool → Bool = λ t was. was || list_any (holds (λ holder. is_overdue grace moment holder && (holder.thread == t))) s.cores in
    let on = on_or_gone grace moment s thread in
    let moved : is_moved (overdue_moved grace moment s) thread ≡ (is_moved s thread || list_any gone s.cores) = flag_each_at mark s.moved thread within in
    elim (any_counted gone s.cores) [
      | inl h ↦
          elim (cases_Bool (is_moved s thread)) [
            | inl was ↦ absurd (omega (arith, on, h.1, once, ap one_if was))
            | inr was ↦
                let now : is_moved (overdue_moved grace moment s) thread ≡ true = moved ∙ rw (was, h.0) refl in
                omega (arith, on, h.1, once, ap one_if was, ap one_if now)
          ]
      | inr h ↦
          let now : is_moved (overdue_moved grace moment s) thread ≡ is_moved s thread = moved ∙ rw h.0 (or_false (is_moved s thread)) in
          omega (arith, on, h.1, ap one_if now)
    ]

-- a thread without a mark of its own stays nowhere
places_past : (grace moment : ℕ) (s : Seats) (thread : ℕ) → length s.moved ≤ thread → times_placed s thread ≡ 0 → times_placed (overdue_moved grace moment s) thread ≡ 0
places_past grace moment s thread past none =
    let mark : ℕ → Bool → Bool = λ t was. was || list_any (holds (λ holder. is_overdue grace moment holder && (holder.thread == t))) s.cores in
    let on = on_or_gone grace moment s thread in
    let long : length (each_at mark 0 s.moved) ≤ thread = omega (arith, length-each_at mark 0 s.moved) in
    let moved : is_moved (overdue_moved grace moment s) thread ≡ false = get_or_past (each_at mark 0 s.moved) thread false long in
    omega (arith, on, none, ap one_if moved)

pub places_overdue_moved_all : (grace moment : ℕ) (s : Seats) (thread : ℕ) → (0 < times_placed s thread → thread < length s.moved) → times_placed s thread ≤ 1 → times_placed (overdue_moved grace moment s) thread ≡ times_placed s thread
places_overdue_moved_all grace moment s thread marked once = grind (arith, nat_tests, common_steps, places_overdue_moved, places_past)

pub places_nowhere : (n k thread : ℕ) → times_placed (record { cores = replicate n None; waiting = []; moved = replicate k false }) thread ≡ 0
places_nowhere n k thread = grind (arith, nat_tests, common_steps, get_or-replicate, get_or_past, length-replicate, sum_by-cons)
