-- What comes of an order.
use Rattle.std.specs.Prelude.{ℕ, ◌≡◌, ◌+◌, ◌<◌, ◌++◌, ◌∷◌, [], Some, length, slice_get}
use mathlib.Core.List.{IsPrefix}
use Rattle.atomic_table.specs.Table.{Me}
use Rattle.arb_config.specs.Machine.{Machine}
use Rattle.arb_model.specs.declared.orders.Event.{Event}
use Rattle.arb_model.specs.declared.orders.Event.TheVariants.{Entered, Posted}
use Rattle.arb_model.specs.declared.orders.Order.{Order}
use Rattle.arb_model.specs.declared.orders.Reply.{Reply}
use Rattle.arb_model.specs.Arbiter.{Arbiter}
use Rattle.arb_model.specs.Layout.{word_count}
use Rattle.arb_model.specs.History.{History, IsLegal, IsSettled, MayFollow, entries_of, entry_after, orders_in, settled_from, state_after}
use Rattle.arb_model.specs.Posting.{stale_count}
use Rattle.arb_model.specs.Reading.{reading}
use Rattle.arb_model.specs.Step.{step_of}
use Rattle.arb_common.specs.declared.giving.Given.{Given}
use Rattle.arb_common.specs.declared.giving.Given.TheVariants.{Answered, Busy, Full}
use Rattle.arb_common.specs.declared.table.Own.{Own}
use Rattle.arb_common.specs.declared.table.SeatView.{SeatView}
use Rattle.arb_common.specs.Sides.{Side}
use Rattle.arb_common.specs.Views.{HasLock, one_step}

-- the reply of the step in the state after a history
abbrev pub reply_at : Machine → History → ℕ → Order → Reply
reply_at m h client order = (step_of m (state_after m h).standing client order).reply

-- the event of an order that is entered after a history
abbrev pub entered_at : History → ℕ → Order → Reply → Event
entered_at h client order reply = Entered (entry_after h client order reply)

-- how many words are stale after a history
abbrev pub stale_after : Machine → History → ℕ
stale_after m h = stale_count (state_after m h).standing (state_after m h).posted

-- an order was entered right after a history, where no word was stale and there was room; the reply is the step's
pub record Enters (m : Machine) (h : History) (client : ℕ) (order : Order) (reply : Reply) (after : History) : Type 0 where
  pub room : orders_in h < m.orders
  pub settled : IsSettled m h
  pub reply_is : reply ≡ reply_at m h client order
  pub seen : after ≡ h ++ entered_at h client order reply ∷ []

-- the same, and then all words that the order left stale were posted
pub record StandsAfter (m : Machine) (point : History) (client : ℕ) (order : Order) (reply : Reply) (after : History) : Type 0 where
  pub room : orders_in point < m.orders
  pub settled : IsSettled m point
  pub reply_is : reply ≡ reply_at m point client order
  pub seen : after ≡ settled_from m (point ++ entered_at point client order reply ∷ [])
  pub quiet : IsSettled m after
  -- the entry stands at the place that the history gives it
  pub place : slice_get (entries_of after) (orders_in point) ≡ Some (entry_after point client order reply)

-- what a seat did, after an order at a point: its place is the next, and each event is a step; so are two more, which read the count and give the lock back
pub record DidEnter (point : History) (before : Own) (seen : History) (after : Own) : Type 0 where
  pub mine : after.mine ≡ before.mine ++ orders_in point ∷ []
  pub busy : after.busy ≡ before.busy
  pub steps : after.steps + length point ≡ before.steps + length seen + 2

-- the history went on to a point, and there the order was entered; its place is the member's next
pub record Stands (before : Side) (client : ℕ) (order : Order) (reply : Reply) (after : Side) : Type 0 where
  pub between : History
  pub stands : StandsAfter before.machine (before.seen ++ between) client order reply after.seen
  pub mine : after.mine ≡ before.mine ++ orders_in (before.seen ++ between) ∷ []
  pub busy : after.busy ≡ before.busy
  -- three steps take the lock, read the count and give the lock back; each event past the point is one step more
  pub steps : after.steps + length (before.seen ++ between) ≡ before.steps + length after.seen + 3

-- the lock was found taken, by one step
abbrev pub busier : Side → Side
busier before = record before { steps = before.steps + 1; busy = before.busy + 1 }

-- what comes of an order: it is answered; or the lock was found taken, and nothing else happens; or the limit is reached, as the member then sees
abbrev pub Gives : Side → ℕ → Order → Given → Side → Type 0
Gives before client order (Answered reply) after = Stands before client order reply after
Gives before client order Busy after = after ≡ busier before
Gives before client order Full after = IsPrefix before.seen after.seen × (orders_in after.seen ≡ before.machine.orders) × (after ≡ record before { seen = after.seen; steps = before.steps + 3 })

-- what comes of it where the lock was taken at a point
abbrev pub GivesAt : Machine → (point : History) → Own → ℕ → Order → Given → SeatView → Type 0
GivesAt m point own client order (Answered reply) after = StandsAfter m point client order reply after.seen × DidEnter point own after.seen after.own
GivesAt m point own client order Busy after = ⊥
GivesAt m point own client order Full after = (after.seen ≡ point) × (orders_in point ≡ m.orders) × (after.own ≡ one_step (one_step own))

-- a turn began, by one step: the history went on to a point, where no word is stale
pub record Begins (before after : Side) : Type 0 where
  pub after_is : after ≡ record before { seen = after.seen; steps = before.steps + 1 }
  pub later : IsPrefix before.seen after.seen
  pub legal : IsLegal after.machine after.seen
  pub settled : IsSettled after.machine after.seen

-- what a seat did, after an order at the end of a history: one load and one store
abbrev pub entering : Own → History → Own
entering own h = record { mine = own.mine ++ orders_in h ∷ []; steps = own.steps + 2; busy = own.busy }

-- an order was entered in a turn, by one load and one store; its place is the member's next
pub record EntersOne (before : Side) (client : ℕ) (order : Order) (reply : Reply) (after : Side) : Type 0 where
  pub enters : Enters before.machine before.seen client order reply after.seen
  pub after_is : after ≡ record before { seen = after.seen; mine = before.mine ++ orders_in before.seen ∷ []; steps = before.steps + 2 }

-- the next stale word was posted in a turn, by one store
pub record PostsOne (before : Side) (w value : ℕ) (after : Side) : Type 0 where
  pub may : MayFollow before.machine before.seen (Posted w value)
  pub fewer : stale_after before.machine after.seen + 1 ≡ stale_after before.machine before.seen
  -- as many posts follow as before, this one among them
  pub settles : settled_from before.machine after.seen ≡ settled_from before.machine before.seen
  pub after_is : after ≡ record before { seen = before.seen ++ Posted w value ∷ []; steps = before.steps + 1 }

-- the arbiter of a seat took an order after a history; the event isn't stored yet
pub record StepsNext (m : Machine) (h : History) (client : ℕ) (order : Order) (reply : Reply) (before : SeatView) (after : Me Arbiter SeatView) : Type 0 where
  pub may : MayFollow m h (entered_at h client order reply)
  pub reply_is : reply ≡ reply_at m h client order
  pub view : after.0 ≡ before
  pub lock : HasLock m (h ++ entered_at h client order reply ∷ []) after

-- the arbiter of a seat posted the next stale word after a history; the event isn't stored yet
pub record PostsNext (m : Machine) (h : History) (w value : ℕ) (before : SeatView) (after : Me Arbiter SeatView) : Type 0 where
  pub may : MayFollow m h (Posted w value)
  pub word : w < word_count
  pub value_is : value ≡ reading (h ++ Posted w value ∷ []) w
  pub fewer : stale_after m (h ++ Posted w value ∷ []) + 1 ≡ stale_after m h
  -- so many posts follow as before, this one among them
  pub settles : settled_from m (h ++ Posted w value ∷ []) ≡ settled_from m h
  pub view : after.0 ≡ before
  pub lock : HasLock m (h ++ Posted w value ∷ []) after
