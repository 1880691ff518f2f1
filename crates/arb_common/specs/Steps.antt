-- What each step on the table tells: of the step, the seat before, the number found, and the seat after.
use Rattle.std.specs.Prelude.{◌≡◌, ℕ, ◌==◌, [], ◌∷◌, ◌++◌, MatchBool}
use mathlib.Core.List.{IsPrefix}
use Rattle.atomic_table.specs.Table.{Me, Step}
use Rattle.arb_config.specs.Machine.{Machine}
use Rattle.arb_model.specs.declared.orders.Event.{Event}
use Rattle.arb_model.specs.Arbiter.{Arbiter}
use Rattle.arb_model.specs.History.{History, IsLegal, IsSettled}
use Rattle.arb_model.specs.Reading.{reading}
use Rattle.arb_common.specs.declared.table.SeatView.{SeatView}
use Rattle.arb_common.specs.declared.table.Own.{Own}
use Rattle.arb_common.specs.Views.{HasLock, copied, found_busy, free_seat, lock_view, own_with, one_step}

-- the lock was taken: the seat has seen the history so far, after which no word is stale, and has an arbiter that stands there
pub record Taken (m : Machine) (before : History) (own : Own) (after : Me Arbiter SeatView) : Type 0 where
  pub lock : HasLock m after.0.seen after
  pub own_is : after.0.own ≡ one_step own
  pub later : IsPrefix before after.0.seen
  pub legal : IsLegal m after.0.seen
  pub settled : IsSettled m after.0.seen

-- a try at the lock: it is taken where it was free; otherwise the seat knows that it was taken
abbrev pub Takes : Step Arbiter → Me Arbiter SeatView → ℕ → Me Arbiter SeatView → Type 0
Takes s me found after = MatchBool (found == 0) (Taken me.0.machine me.0.seen me.0.own after) (after ≡ (record me.0 { own = found_busy me.0.own }, me.1))

-- a store by the seat that has the lock: the history goes on with an event
abbrev pub Appends : Event → Step Arbiter → Me Arbiter SeatView → ℕ → Me Arbiter SeatView → Type 0
Appends e s me stored after = after ≡ (lock_view me.0.machine (me.0.seen ++ e ∷ []) (own_with me.0.own me.0.seen e), me.1)

-- the lock is given up
abbrev pub GivesUp : Step Arbiter → Me Arbiter SeatView → ℕ → Me Arbiter SeatView → Type 0
GivesUp s me stored after = after ≡ free_seat me.0.machine me.0.seen (one_step me.0.own)

-- the history so far was seen, with all that had been seen and was told, and the number is the word's reading
pub record Looked (m : Machine) (w : ℕ) (before : SeatView) (found : ℕ) (after : Me Arbiter SeatView) : Type 0 where
  pub seat : after ≡ free_seat m after.0.seen (one_step before.own)
  pub value : found ≡ reading after.0.seen w
  pub later : IsPrefix before.seen after.0.seen
  pub told : IsPrefix before.told after.0.seen
  pub legal : IsLegal m after.0.seen

-- a load of a page word
abbrev pub Looks : Step Arbiter → Me Arbiter SeatView → ℕ → Me Arbiter SeatView → Type 0
Looks s me found after = Looked me.0.machine s.word me.0 found after

-- a load of a page word by the seat that has the lock: the number is the reading of what it has seen
abbrev pub Checks : Step Arbiter → Me Arbiter SeatView → ℕ → Me Arbiter SeatView → Type 0
Checks s me found after = (after ≡ (copied me.0, me.1)) × (found ≡ reading me.0.seen s.word)
