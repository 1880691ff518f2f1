-- Posting an order.
use Rattle.std.specs.Prelude.{◌≡◌, ◌<◌, ◌≤◌, ◌+◌, ◌-◌, ◌||◌, ◌⊎◌, true, false, Option, Some, None, [], ◌∷◌, ◌++◌, length, nat_le, if◌then◌else◌}
use mathlib.Core.List.{IsPrefix}
use Rattle.arb_model.specs.declared.orders.Order.{Order}
use Rattle.arb_model.specs.History.{orders_in}
use Rattle.arb_client.specs.declared.client.OpenOrder.{OpenOrder}
use Rattle.arb_client.specs.declared.faults.PostFault.{PostFault}
use Rattle.arb_client.specs.declared.faults.PostFault.TheVariants.{Busy, TooManyOut, Full, Gone, Memory}
use Rattle.arb_client.specs.Sides.{Side, most_open, with_put}

-- a client may post: it isn't closed to orders, the limit wasn't met, and few enough orders are open
pub record Accepts (a : Side) : Type 0 where
  pub unshut : a.shut ≡ false
  pub below : a.full ≡ false
  pub few : length a.out < most_open

-- an order was posted: the server hadn't ended when the client looked, the order was put into the queue, and is the last open one, for whose reply room is kept; the client has seen on, and all else is as it was
pub record Posts (a b : Side) (order : Order) : Type 0 where
  pub accepts : Accepts a
  pub later : IsPrefix a.seen b.seen
  pub room : a.room ≤ b.room + 1
  pub rest : b ≡ record (with_put a order) { seen = b.seen; steps = b.steps; ended = false; out = a.out ++ record { order = order; orders_seen = orders_in b.seen } ∷ []; room = b.room }

-- why an order isn't posted, in the order of the faults, of which just one applies: the server had ended when the client looked, or the client was closed to orders before. A client that found the queue full has room for the reply
abbrev pub Refuses : Side → Side → PostFault → Type 0
Refuses a b Gone = (a.shut ≡ true) ⊎ (b.ended ≡ true)
Refuses a b Full = (b.ended ≡ false) × (a.shut ≡ false) × (a.full ≡ true)
Refuses a b TooManyOut = (b.ended ≡ false) × (a.shut ≡ false) × (a.full ≡ false) × (length a.out ≡ most_open)
Refuses a b Memory = (b.ended ≡ false) × Accepts a × (a.room ≡ 0)
Refuses a b Busy = (b.ended ≡ false) × Accepts a × (0 < b.room)

-- the first fault that applies whatever memory and queue there are: the server had ended when the client last looked, or the client is closed to orders; the limit was met; as many orders are open as may be
abbrev pub refusal_of : Side → Option PostFault
refusal_of a = if a.shut || a.ended then Some Gone else if a.full then Some Full else if nat_le most_open (length a.out) then Some TooManyOut else None

-- a client that has put one order more, which is open with the number of orders that was read before, and has the room that is kept for its reply
abbrev pub with_open : Side → OpenOrder → Side
with_open a asked = record (with_put a asked.order) { out = a.out ++ asked ∷ []; room = a.room - 1 }
