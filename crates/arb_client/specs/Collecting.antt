-- Collecting a reply.
use Rattle.std.specs.Prelude.{◌≡◌, ◌<◌, ◌≤◌, ◌+◌, Bool, true, false, [], ◌∷◌, ◌++◌, length, Result, Ok, Err}
use Rattle.arb_config.specs.Machine.{Machine}
use Rattle.arb_model.specs.declared.orders.Reply.{Reply}
use Rattle.arb_desk.specs.declared.answer.Admission.{Admission}
use Rattle.arb_desk.specs.declared.answer.Admission.TheVariants.{Entered, Full as FullAdmission}
use Rattle.arb_desk.specs.Answers.{IsFullPast}
use Rattle.arb_client.specs.declared.client.OpenOrder.{OpenOrder}
use Rattle.arb_client.specs.declared.faults.CollectFault.{CollectFault}
use Rattle.arb_client.specs.declared.faults.CollectFault.TheVariants.{NothingOut, Full, Gone, Stranger}
use Rattle.arb_client.specs.Replies.{StandsFor}
use Rattle.arb_client.specs.Sides.{Side, own_entry}

-- a reply was collected: no order was answered as past the limit before, and it is to the oldest open order, past all that was seen when that was posted. It stands where room was kept for it, so no memory was taken
pub record Collects (m : Machine) (a b : Side) (reply : Reply) : Type 0 where
  pub below : a.full ≡ false
  pub asked : OpenOrder
  pub out : a.out ≡ asked ∷ b.out
  pub answer : StandsFor m a b asked.order reply asked.orders_seen
  pub rest : b ≡ record a { seen = b.seen; steps = b.steps; mine = a.mine ++ (asked.order, reply) ∷ []; out = b.out }

-- the oldest open order was answered as past the limit: what is seen now holds as many orders as that, and none of the client's but the answered ones, so not this one. The room that was kept for its reply is free
pub record MeetsLimit (m : Machine) (a b : Side) : Type 0 where
  pub asked : OpenOrder
  pub out : a.out ≡ asked ∷ b.out
  pub rest : b ≡ record a { seen = b.seen; steps = b.steps; out = b.out; full = true; room = a.room + 1 }
  pub limit : IsFullPast m b.seen a.id (length a.mine)

-- whether a fault says that an answer was another order's
abbrev pub is_strange : CollectFault → Bool
is_strange NothingOut = false
is_strange Full = false
is_strange Gone = false
is_strange Stranger = true

-- no reply was collected, though an order was open: none is open any more, and the client is closed to orders, and knows by which fault. The room that was kept for their replies is free
abbrev pub IsShut : CollectFault → Side → Side → Type 0
IsShut fault a b = (0 < length a.out) × (b ≡ record a { out = []; shut = true; strange = is_strange fault; room = a.room + length a.out })

-- why no reply was collected
abbrev pub Misses : Machine → Side → Side → CollectFault → Type 0
Misses m a b NothingOut = (a.out ≡ []) × (b ≡ a)
Misses m a b Full = MeetsLimit m a b
Misses m a b Gone = IsShut Gone a b
Misses m a b Stranger = IsShut Stranger a b

-- an answer is to the oldest open order of a client: an entry names the client, its next number and the order, and stands past all that was seen when that was posted; one past the limit names the client and its next number
abbrev pub IsMeant : Side → OpenOrder → Admission → Type 0
IsMeant a asked (Entered entry place) = (entry ≡ own_entry a.id (length a.mine) asked.order entry.reply) × (asked.orders_seen ≤ place)
IsMeant a asked (FullAdmission client number) = (client ≡ a.id) × (number ≡ length a.mine)

-- what an answer that is meant comes to: the reply of its entry, or that the limit is reached
abbrev pub result_of : Admission → Result Reply CollectFault
result_of (Entered entry place) = Ok entry.reply
result_of (FullAdmission client number) = Err Full

-- what an answer comes to, where an order is open: any that isn't meant is a stranger's, and no other is
pub record ComesTo (a : Side) (asked : OpenOrder) (answer : Admission) (result : Result Reply CollectFault) : Type 0 where
  pub meant : IsMeant a asked answer → result ≡ result_of answer
  pub strange : ¬ IsMeant a asked answer → result ≡ Err Stranger
