-- What a member's seat knows, and what it has under the lock.
use Rattle.std.specs.Prelude.{◌≡◌, ◌+◌, true, false, [], ◌∷◌}
use Rattle.atomic_table.specs.Seated.{TableId}
use Rattle.atomic_table.specs.Table.{Me}
use Rattle.arb_config.specs.Machine.{Machine}
use Rattle.arb_model.specs.Arbiter.{Arbiter}
use Rattle.arb_model.specs.declared.orders.Event.{Event}
use Rattle.arb_model.specs.History.{History}
use Rattle.arb_common.specs.declared.table.Own.{Own}
use Rattle.arb_common.specs.declared.table.SeatView.{SeatView}
use Rattle.arb_common.specs.Limits.{StandsAt}
use Rattle.arb_common.specs.Places.{mine_after}
use Rattle.arb_common.specs.Sides.{Side}

-- a seat that has done nothing yet
abbrev pub newcomer : Own
newcomer = record { mine = []; steps = 0; busy = 0 }

-- one step more
abbrev pub one_step : Own → Own
one_step own = record own { steps = own.steps + 1 }

-- one step more, which found the lock taken
abbrev pub found_busy : Own → Own
found_busy own = record { mine = own.mine; steps = own.steps + 1; busy = own.busy + 1 }

-- one step more, with an event after a history
abbrev pub own_with : Own → History → Event → Own
own_with own h e = record { mine = mine_after own.mine h e; steps = own.steps + 1; busy = own.busy }

-- the view of a seat without the lock: the history that it has seen, and what it did
abbrev pub free_view : Machine → History → Own → SeatView
free_view m h own = record { holds = false; spent = false; machine = m; seen = h; told = []; own = own }

-- the view of a seat that has the lock
abbrev pub lock_view : Machine → History → Own → SeatView
lock_view m h own = record { holds = true; spent = false; machine = m; seen = h; told = []; own = own }

-- the view of a seat that a copy was made of, by a step
abbrev pub copied : SeatView → SeatView
copied v = record v { own = one_step v.own }

-- a seat takes in another, by a step: what that one has seen is what it was told, until its next load
abbrev pub told_by : SeatView → SeatView → SeatView
told_by v w = record v { told = w.seen; own = one_step v.own }

-- the view of a seat that was taken in
abbrev pub spent : SeatView
spent = record { holds = false; spent = true; machine = record { sockets = []; unmanaged = []; grace = 0; orders = 0 }; seen = []; told = []; own = newcomer }

-- the side of a member whose seat has this view
abbrev pub side_of : TableId → Machine → SeatView → Side
side_of table m v = record { table = table; machine = m; seen = v.seen; mine = v.own.mine; steps = v.own.steps; busy = v.own.busy }

-- a seat without the lock has no arbiter
abbrev pub free_seat : Machine → History → Own → Me Arbiter SeatView
free_seat m h own = (free_view m h own, [])

-- a seat that has the lock has an arbiter
abbrev pub lock_seat : Machine → History → Own → Arbiter → Me Arbiter SeatView
lock_seat m h own a = (lock_view m h own, (0, a) ∷ [])

-- a seat has the lock, and an arbiter that stands where a history leads
pub record HasLock (m : Machine) (h : History) (me : Me Arbiter SeatView) : Type 0 where
  pub arbiter : Arbiter
  pub seat : me ≡ lock_seat m me.0.seen me.0.own arbiter
  pub stands : StandsAt m h arbiter
