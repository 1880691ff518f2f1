-- A client as contracts see it. In these files a client is `a` before a call and `b` after it.
use Rattle.std.specs.Prelude.{ℕ, ◌≡◌, ◌≤◌, Bool, false, Some, List, [], ◌∷◌, ◌++◌, map, slice_get}
use mathlib.Core.List.{IsPrefix}
use Rattle.arb_model.specs.declared.orders.Entry.{Entry}
use Rattle.arb_model.specs.declared.orders.Order.{Order}
use Rattle.arb_model.specs.declared.orders.Reply.{Reply}
use Rattle.arb_model.specs.History.{History, entries_of}
use Rattle.arb_desk.specs.declared.message.Body.TheVariants.{Close, Put}
use Rattle.arb_desk.specs.declared.message.Message.{Message}
use Rattle.arb_desk.specs.Passes.{QueueId}
use Rattle.arb_client.specs.declared.client.OpenOrder.{OpenOrder}

-- how many orders of a client may be open
abbrev pub most_open : ℕ
most_open = 8

-- a client: who it is; the history that it has seen, and how many steps it made on the pages; its answered orders with their replies, and its open ones; the messages that it put; whether an order was answered as past the limit; whether it is closed to orders, and whether by another order's answer; whether the server had ended when it last looked; for how many more orders its list of replies has room; how many its list of open ones can hold; and which queue it puts its messages into
pub record Side : Type 0 where
  pub id : ℕ
  pub seen : History
  pub steps : ℕ
  pub mine : List (Order × Reply)
  pub out : List OpenOrder
  pub put : List Message
  pub full : Bool
  pub shut : Bool
  pub strange : Bool
  pub ended : Bool
  pub room : ℕ
  pub places : ℕ
  pub queue : QueueId

-- a client of a queue that has seen nothing and put nothing
abbrev pub fresh : QueueId → ℕ → Side
fresh queue id = record { id = id; seen = []; steps = 0; mine = []; out = []; put = []; full = false; shut = false; strange = false; ended = false; room = 0; places = most_open; queue = queue }

-- a client has seen more, by steps on the pages; all else is as it was, its room and its places too, so that it took no memory
pub record SeesOn (a b : Side) : Type 0 where
  pub later : IsPrefix a.seen b.seen
  pub rest : b ≡ record a { seen = b.seen; steps = b.steps }

-- a client has seen more, and has looked whether the server has ended; all else is as it was, so that it took no memory
pub record LooksOn (a b : Side) : Type 0 where
  pub later : IsPrefix a.seen b.seen
  pub rest : b ≡ record a { seen = b.seen; steps = b.steps; ended = b.ended }

-- a client has seen more, has looked whether the server has ended, and may have got more room for replies; all else is as it was
pub record GainsRoom (a b : Side) : Type 0 where
  pub later : IsPrefix a.seen b.seen
  pub room : a.room ≤ b.room
  pub rest : b ≡ record a { seen = b.seen; steps = b.steps; ended = b.ended; room = b.room }

-- the entry of a client's order of a number
abbrev pub own_entry : ℕ → ℕ → Order → Reply → Entry
own_entry id number order reply = record { client = id; number = number; order = order; reply = reply }

-- the message that holds a client's order
abbrev pub message : ℕ → Order → Message
message id order = record { client = id; body = Put order }

-- the message with which a client closes
abbrev pub close_mark : ℕ → Message
close_mark id = record { client = id; body = Close }

-- a client that has put one order more
abbrev pub with_put : Side → Order → Side
with_put a order = record a { put = a.put ++ message a.id order ∷ [] }

-- each answered order stands in a history with its reply, as the client's entry of its number
abbrev pub StandIn : ℕ → List (Order × Reply) → History → Type 0
StandIn id mine seen = (number : ℕ) (answered : Order × Reply) → slice_get mine number ≡ Some answered → (place : ℕ) × (slice_get (entries_of seen) place ≡ Some (own_entry id number answered.0 answered.1))

-- the messages of the answered orders, and then of the open ones
abbrev pub puts_of : ℕ → List (Order × Reply) → List OpenOrder → List Message
puts_of id mine out = map (λ answered. message id answered.0) mine ++ map (λ asked. message id asked.order) out
