-- Taking the lock by many tries, and what comes of an order then.
use Rattle.std.specs.Prelude.{ℕ, ◌≡◌, ◌+◌}
use mathlib.Core.List.{IsPrefix}
use Rattle.arb_model.specs.declared.orders.Order.{Order}
use Rattle.arb_model.specs.declared.orders.Reply.{Reply}
use Rattle.arb_model.specs.History.{orders_in}
use Rattle.arb_common.specs.Giving.{Begins, Stands}
use Rattle.arb_common.specs.Sides.{Side}

-- so many tries found the lock taken, each by one step
abbrev pub tried : (tries : ℕ) → Side → Side
tried tries before = record before { steps = before.steps + tries; busy = before.busy + tries }

-- after some tries that found the lock taken, a turn began
pub record BeginsAtLast (before after : Side) : Type 0 where
  pub tries : ℕ
  pub begins : Begins (tried tries before) after

-- after some tries that found the lock taken, an order was entered at a point of the history, and answered
pub record StandsAtLast (before : Side) (client : ℕ) (order : Order) (reply : Reply) (after : Side) : Type 0 where
  pub tries : ℕ
  pub stands : Stands (tried tries before) client order reply after

-- after some tries that found the lock taken, the limit on orders was reached at a point that the member then sees, and nothing was entered; three steps take the lock, read the count and give the lock back
pub record MeetsLimit (before after : Side) : Type 0 where
  pub tries : ℕ
  pub later : IsPrefix before.seen after.seen
  pub reached : orders_in after.seen ≡ before.machine.orders
  pub after_is : after ≡ record (tried tries before) { seen = after.seen; steps = before.steps + tries + 3 }
