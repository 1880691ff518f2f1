-- The rule that the table keeps.
use Rattle.std.specs.Prelude.{◌≡◌, ℕ, ◌+◌, ◌≤◌, true, false, List, [], ◌∷◌, length, slice_index}
use mathlib.Core.Option.{Option, some}
use mathlib.Core.List.{IsPrefix}
use lib.ListN.{get_elem?}
use Rattle.atomic_table.specs.Table.{State}
use Rattle.arb_config.specs.Machine.{Machine}
use Rattle.arb_model.specs.Arbiter.{Arbiter}
use Rattle.arb_model.specs.Layout.{word_count}
use Rattle.arb_model.specs.History.{History, IsLegal, IsSettled, orders_in}
use Rattle.arb_model.specs.Reading.{AreReadings}
use Rattle.arb_common.specs.declared.table.SeatView.{SeatView}
use Rattle.arb_common.specs.Places.{places_from}
use Rattle.arb_common.specs.Limits.{StandsAt}

-- the view of a seat fits the history: what it has seen and was told begins the history, and its own entries are those that it gave; and a seat that has the lock is the one that took it last, and has seen all of the history
pub record Fits (m : Machine) (h : History) (givers : List ℕ) (lock locker seat : ℕ) (v : SeatView) : Type 0 where
  pub machine : v.spent ≡ false → v.machine ≡ m
  pub seen : IsPrefix v.seen h
  pub told : IsPrefix v.told h
  pub mine : v.own.mine ≡ places_from seat 0 givers
  pub holds : v.holds ≡ true → (seat ≡ locker) × (v.seen ≡ h) × (lock ≡ 1)

-- the page words read a history, and the word behind them is the lock
pub record Shows (words : List ℕ) (h : History) (lock : ℕ) : Type 0 where
  pub count : length words ≡ word_count + 1
  pub pages : AreReadings words h
  pub lock_word : slice_index words word_count ≡ lock

-- while the lock is free, an arbiter that stands where the history leads is in the slot, and no word is stale
pub record AtRest (m : Machine) (h : History) (homes : List (Option Arbiter)) : Type 0 where
  pub arbiter : Arbiter
  pub home : homes ≡ some arbiter ∷ []
  pub stands : StandsAt m h arbiter
  pub settled : IsSettled m h

-- there is one legal history; the page words are its readings, an arbiter is where it leads while the lock is free, and each view fits it
pub record SharesOneHistory (m : Machine) (s : State Arbiter SeatView) : Type 0 where
  pub history : History
  pub legal : IsLegal m history
  pub lock : ℕ
  pub locker : ℕ
  pub words : Shows s.words history lock
  -- the seat that gave each entry; no seat to come has one
  pub givers : List ℕ
  pub counted : length givers ≡ orders_in history
  pub fresh : (seat : ℕ) → length s.views ≤ seat → places_from seat 0 givers ≡ []
  pub rest : lock ≡ 0 → AtRest m history s.homes
  pub views : (seat : ℕ) (v : SeatView) → get_elem? s.views seat ≡ some v → Fits m history givers lock locker seat v
