-- What a client leaves.
use Rattle.std.specs.Prelude.{ℕ, suc, ◌≡◌, ◌⊎◌, Bool, true, List, [], ◌∷◌, ◌++◌, length, if◌then◌else◌}
use mathlib.Core.List.{IsPrefix}
use Rattle.crossbeam_queue.specs.Passes.{view}
use Rattle.arb_config.specs.Machine.{Machine}
use Rattle.arb_model.specs.declared.orders.Order.{Order}
use Rattle.arb_model.specs.declared.orders.Reply.{Reply}
use Rattle.arb_model.specs.History.{History, IsLegal}
use Rattle.arb_desk.specs.Answers.{IsFullPast}
use Rattle.arb_desk.specs.declared.past.Past.{Past}
use Rattle.arb_client.specs.declared.client.OpenOrder.{OpenOrder}
use Rattle.arb_client.specs.Collecting.{Collects, MeetsLimit}
use Rattle.arb_client.specs.Sides.{Side, StandIn, close_mark, puts_of}

-- replies to a client's open orders from a number on, in their order; one may lack where the past isn't whole, or where the history is full and has no entry of its number
abbrev pub AreReplies : Machine → History → (id number : ℕ) → (whole : Bool) → List OpenOrder → List (Order × Reply) → Type 0
AreReplies m h id number whole [] replies = replies ≡ []
AreReplies m h id number whole (asked ∷ out) replies =
    ((reply : Reply) × (rest : List (Order × Reply)) × (replies ≡ (asked.order, reply) ∷ rest) × AreReplies m h id (suc number) whole out rest)
    ⊎ ((whole ≡ true → IsFullPast m h id number) × AreReplies m h id number whole out replies)

-- what a client leaves: its answered orders, and then replies to its open ones, all of which stand in what it has seen
pub record Leaves (m : Machine) (a : Side) (past : Past) : Type 0 where
  pub legal : IsLegal m past.point.seen
  pub later : IsPrefix a.seen past.point.seen
  pub stand : StandIn a.id past.mine.items past.point.seen
  pub replies : List (Order × Reply)
  pub is : past.mine.items ≡ a.mine ++ replies
  pub are : AreReplies m past.point.seen a.id (length a.mine) past.whole a.out replies

-- what a client has put in the end: its close mark too, where that was put; a whole past has its mark
pub record PutsMark (a : Side) (past : Past) : Type 0 where
  pub marked : Bool
  pub put : (view past.pass).put ≡ (if marked then a.put ++ close_mark a.id ∷ [] else a.put)
  pub whole : past.whole ≡ true → marked ≡ true

-- how a client was closed to orders as it closed, with these answered orders, and having seen this: some collects answered a reply or met the limit, and then one did neither, though an order was open. Nothing was seen after
abbrev pub IsShutInClose : Machine → List (Order × Reply) → History → List OpenOrder → Side → Type 0
IsShutInClose m mine seen [] a = ⊥
IsShutInClose m mine seen (asked ∷ out) a =
    ((mine ≡ a.mine) × (seen ≡ a.seen))
    ⊎ (((b : Side) × (reply : Reply) × Collects m a b reply × IsShutInClose m mine seen out b)
    ⊎ ((b : Side) × MeetsLimit m a b × IsShutInClose m mine seen out b))

-- why a past isn't whole: its close mark wasn't put, or its client was closed to orders, before the close or in it
abbrev pub IsCut : Machine → Side → Past → Type 0
IsCut m a past = ((view past.pass).put ≡ a.put) ⊎ ((a.shut ≡ true) ⊎ IsShutInClose m past.mine.items past.point.seen a.out a)

-- a complete past: its answered orders stand in the history that its client had seen, and are all that its client put before its close mark; or that history is full past them
pub record IsComplete (m : Machine) (past : Past) : Type 0 where
  pub stand : StandIn past.client past.mine.items past.point.seen
  pub all : ((view past.pass).put ≡ puts_of past.client past.mine.items [] ++ close_mark past.client ∷ []) ⊎ IsFullPast m past.point.seen past.client (length past.mine.items)
