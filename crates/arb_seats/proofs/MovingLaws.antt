-- Overdue threads are moved one after another.
use Rattle.arb_seats.proofs.Words.{Cores, ◌≡◌, ℕ, ◌+◌, ◌<◌, ◌≤◌, length, map, take, zero, suc, arith, sym, ap, ◌∙◌, inl, inr, Option, Some, None, Bool, false, slice_index_or, nat_lt, ◌==◌, ◌&&◌, ◌||◌}
use Rattle.arb_seats.proofs.Words.{if◌then◌else◌, count_by, list_any, cases_lt, ext_get_or, written, length-map, take_all, sum_by_more, Holder, free_if, is_overdue, overdue_moved, ShownSeats, each_at}
use Rattle.arb_seats.proofs.Words.{one_if, Seats, holder_at, holds, is_asked, seats, get_or-each_at, get_or-map, length-each_at}
use Rattle.std.proofs.lemmas.List.Folds.{list_any_more}
use Rattle.arb_seats.specs.Moving.{moved_if, overdue_at}
use Rattle.arb_seats.proofs.LoopLaws.{FirstFrom, UpTo}
use Rattle.arb_seats.proofs.ShownLaws.{seated}

-- what is known of the next core that is asked back, from one position on
abbrev pub NextBack : Cores → ℕ → Option ℕ → Type 0
NextBack cores n next = FirstFrom (length cores) n (λ p. is_asked (holder_at cores p)) next

module _ (grace moment : ℕ) where
  -- whether a thread is overdue on a core
  abbrev pub is_gone : ℕ → Option Holder → Bool
  is_gone t core = holds (λ holder. is_overdue grace moment holder && (holder.thread == t)) core

  -- a thread that isn't asked for its core stays
  unasked_stays : (p : ℕ) (core : Option Holder) (s : Seats) → is_asked core ≡ false → (moved_if grace moment p core s ≡ s) × (holds (is_overdue grace moment) core ≡ false)
  unasked_stays p core s off = grind arith

  -- the first cores had their turn, and so many threads were moved
  pub record MovedFirst (from f : ShownSeats) (count n : ℕ) : Type 0 where
    pub rest : f ≡ seated from (seats f.seats.cores from.seats.waiting f.seats.moved)
    pub one_each : length f.seats.cores ≡ length from.seats.cores
    pub all : length f.seats.moved ≡ length from.seats.moved
    pub cores : (q : ℕ) → holder_at f.seats.cores q ≡ (if nat_lt q n then free_if (is_overdue grace moment) (holder_at from.seats.cores q) else holder_at from.seats.cores q)
    pub marks : (t : ℕ) → t < length from.seats.moved
        → slice_index_or f.seats.moved t false ≡ (slice_index_or from.seats.moved t false || list_any (is_gone t) (take n from.seats.cores))
    pub counted : count ≡ count_by (holds (is_overdue grace moment)) (take n from.seats.cores)
    pub few : count ≤ n

-- none had its turn
pub MovedFirst-start : {grace moment : ℕ} {from : ShownSeats} → MovedFirst grace moment from from 0 0
MovedFirst-start = grind arith

-- the next core has its turn
pub MovedFirst-more : {grace moment count more n : ℕ} {from f after : ShownSeats} → n < length from.seats.cores → MovedFirst grace moment from f count n
    → after ≡ seated f (overdue_at grace moment n f.seats) → more ≡ one_if (holds (is_overdue grace moment) (holder_at f.seats.cores n)) → MovedFirst grace moment from after (count + more) (n + 1)
MovedFirst-more {grace} {moment} {count} {more} {n} {from} {f} less m is_after is_more =
    let same : holder_at f.seats.cores n ≡ holder_at from.seats.cores n = grind arith in
    rw (is_after, is_more) (record {
      rest = grind arith;
      one_each = grind (arith, written);
      all = grind (arith, written);
      cores = grind (arith, written);
      marks = λ t lt. grind (arith, written, list_any_more (is_gone grace moment t) from.seats.cores n None);
      counted = grind (arith, sum_by_more);
      few = grind arith;
    })

-- cores that aren't asked need no turn
MovedFirst-skip : {grace moment count : ℕ} {from f : ShownSeats} (n q : ℕ) → n ≤ q → q ≤ length from.seats.cores
    → ((p : ℕ) → n ≤ p → p < q → is_asked (holder_at from.seats.cores p) ≡ false) → MovedFirst grace moment from f count n → MovedFirst grace moment from f count q
MovedFirst-skip n zero low fits unasked m = let e : n ≡ 0 = omega arith in rw e at m
MovedFirst-skip {grace} {moment} {count} {from} {f} n (suc q) low fits unasked m =
    elim (cases_lt q n) [
      | inl past ↦ let e : n ≡ suc q = omega arith in rw e at m
      | inr before ↦
          let to = MovedFirst-skip n q before (omega arith) (λ p from less. unasked p from (omega arith)) m in
          let off = unasked_stays grace moment q (holder_at f.seats.cores q) f.seats (grind arith) in
          let e : (q + 1 ≡ suc q) × (count + 0 ≡ count) = omega arith in
          rw (e.0, e.1) at (MovedFirst-more fits to (ap (seated f) (sym off.0)) (ap one_if (sym off.1)))
    ]

-- all cores had their turn
pub MovedFirst-end : {grace moment count : ℕ} {from f : ShownSeats} → MovedFirst grace moment from f count (length from.seats.cores)
    → (f ≡ seated from (overdue_moved grace moment from.seats)) × (count ≡ count_by (holds (is_overdue grace moment)) from.seats.cores)
MovedFirst-end {grace} {moment} {from = from} {f} m =
    let whole : take (length from.seats.cores) from.seats.cores ≡ from.seats.cores = take_all _ from.seats.cores (omega arith) in
    let mark : ℕ → Bool → Bool = λ thread was. was || list_any (is_gone grace moment thread) from.seats.cores in
    let cores : f.seats.cores ≡ map (free_if (is_overdue grace moment)) from.seats.cores
    = ext_get_or None _ _ (grind (arith, length-map)) (λ q lt. grind (arith, get_or-map)) in
    let moved : f.seats.moved ≡ each_at mark 0 from.seats.moved
    = ext_get_or false _ _ (grind (arith, length-each_at)) (λ t lt. grind (arith, get_or-each_at mark from.seats.moved t false false)) in
    (m.rest ∙ (λ j. seated from (seats (cores j) from.seats.waiting (moved j))), rw whole at m.counted)

-- all cores before the next one that is asked back had their turn
pub next_turn : {grace moment count n : ℕ} {from f : ShownSeats} (next : Option ℕ) → n ≤ length from.seats.cores → MovedFirst grace moment from f count n → NextBack from.seats.cores n next
    → UpTo (length from.seats.cores) (MovedFirst grace moment from f count) next
next_turn {n = n} None fits m none = MovedFirst-skip n _ fits (omega arith) (λ p low _. none p low) m
next_turn {n = n} (Some q) fits m some = (some.1.0, MovedFirst-skip n q some.0 (omega (arith, some.1.0)) some.1.1.1 m)
