-- A whole call: an order and its reply.
use Rattle.std.specs.Prelude.{◌≡◌, ◌≢◌, true, false, [], ◌∷◌, ◌++◌, length}
use Rattle.arb_config.specs.Machine.{Machine}
use Rattle.arb_model.specs.declared.orders.Order.{Order}
use Rattle.arb_model.specs.declared.orders.Reply.{Reply}
use Rattle.arb_model.specs.History.{orders_in}
use Rattle.arb_desk.specs.Answers.{IsFullPast}
use Rattle.arb_client.specs.declared.faults.PostFault.TheVariants.{Busy}
use Rattle.arb_client.specs.declared.faults.CollectFault.{CollectFault}
use Rattle.arb_client.specs.declared.faults.CollectFault.TheVariants.{NothingOut, Full, Gone, Stranger}
use Rattle.arb_client.specs.declared.faults.CallFault.{CallFault}
use Rattle.arb_client.specs.declared.faults.CallFault.TheVariants.{Post, Collect}
use Rattle.arb_client.specs.Collecting.{is_strange}
use Rattle.arb_client.specs.Posting.{Accepts, Refuses}
use Rattle.arb_client.specs.Replies.{StandsFor}
use Rattle.arb_client.specs.Sides.{GainsRoom, Side, with_put}

-- an order was put into the queue and its reply collected: it stands past all that was seen before the call
pub record Answers (m : Machine) (a b : Side) (order : Order) (reply : Reply) : Type 0 where
  pub accepts : Accepts a
  pub answer : StandsFor m a b order reply (orders_in a.seen)
  pub rest : b ≡ record (with_put a order) { seen = b.seen; steps = b.steps; ended = false; mine = a.mine ++ (order, reply) ∷ []; room = b.room }

-- an order was put into the queue, and the client met the limit: what is seen now holds none of the client's orders but the answered ones, so not this one
pub record CallMeetsLimit (m : Machine) (a b : Side) (order : Order) : Type 0 where
  pub accepts : Accepts a
  pub rest : b ≡ record (with_put a order) { seen = b.seen; steps = b.steps; ended = false; full = true; room = b.room }
  pub limit : IsFullPast m b.seen a.id (length a.mine)

-- an order was put into the queue, and the client is closed to orders by a fault
pub record CallIsShut (fault : CollectFault) (a b : Side) (order : Order) : Type 0 where
  pub accepts : Accepts a
  pub rest : b ≡ record (with_put a order) { seen = b.seen; steps = b.steps; ended = false; shut = true; strange = is_strange fault; room = b.room }

-- why a call collected no reply to its order
abbrev pub CollectsNone : Machine → Side → Side → Order → CollectFault → Type 0
CollectsNone m a b order NothingOut = ⊥
CollectsNone m a b order Full = CallMeetsLimit m a b order
CollectsNone m a b order Gone = CallIsShut Gone a b order
CollectsNone m a b order Stranger = CallIsShut Stranger a b order

-- why a call got no reply: the order wasn't posted, for another cause than a full queue, or no reply was collected
abbrev pub FailsCall : Machine → Side → Side → Order → CallFault → Type 0
FailsCall m a b order (Post fault) = (fault ≢ Busy) × Refuses a b fault × GainsRoom a b
FailsCall m a b order (Collect fault) = CollectsNone m a b order fault
