-- The pasts of a house's own clients, and what taking them in tells.
use Rattle.std.specs.Prelude.{◌≡◌, ℕ, true, List, Vec, map, take}
use mathlib.Core.List.{IsPrefix}
use Rattle.atomic_table.specs.Seated.{TableId}
use Rattle.crossbeam_queue.specs.Passes.{view}
use Rattle.arb_config.specs.Machine.{Machine}
use Rattle.arb_model.specs.History.{History}
use Rattle.arb_desk.specs.declared.message.Message.{Message}
use Rattle.arb_desk.specs.declared.past.Past.{Past}
use Rattle.arb_desk.specs.Messages.{is_closed, messages_by}
use Rattle.arb_desk.specs.Passes.{IsPassAt, QueueId}
use Rattle.arb_client.specs.Closing.{IsComplete}
use Rattle.arb_model.specs.declared.orders.Order.{Order}
use Rattle.arb_model.specs.declared.orders.Reply.{Reply}
use Rattle.arb_house.specs.Pasts.{AnsweredOrders}

-- a past is of a client of a house: of its queue and its pages; and where it is whole, it holds all that its client put
pub record IsOwnPast (table : TableId) (m : Machine) (queue : QueueId) (past : Past) : Type 0 where
  pub pass : IsPassAt queue past.pass
  pub point : past.point.table ≡ table
  pub complete : past.whole ≡ true → IsComplete m past

-- a past was taken in, over the history of its server and the messages that this took: what its client had seen begins the history; what was taken of the client begins what it put, and is all of it where its close mark was taken
pub record IsTakenIn (h : History) (taken : List Message) (past : Past) : Type 0 where
  pub seen : IsPrefix past.point.seen h
  pub begins : IsPrefix (messages_by past.client taken) (view past.pass).put
  pub all : is_closed (messages_by past.client taken) ≡ true → (view past.pass).put ≡ messages_by past.client taken

-- the elements of each of some vectors
abbrev pub items_of_each : {A : Type 0} → List (Vec (Order × Reply) A) → List AnsweredOrders
items_of_each lists = map (λ list. list.items) lists

-- the lists of answered orders of the first so many pasts
abbrev pub first_lists : ℕ → List Past → List AnsweredOrders
first_lists room pasts = take room (map (λ past. past.mine.items) pasts)
