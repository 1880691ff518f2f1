-- A recorder, and what comes of an order.
use Rattle.std.specs.Prelude.{ℕ, ◌≡◌, ◌<◌, ◌≤◌, ◌++◌, ◌∷◌, []}
use Rattle.arb_config.specs.Machine.{Machine}
use Rattle.arb_model.specs.declared.orders.Entry.{Entry}
use Rattle.arb_model.specs.declared.orders.Event.TheVariants.{Entered as EntryEvent}
use Rattle.arb_model.specs.declared.orders.Order.{Order}
use Rattle.arb_model.specs.Arbiter.{Arbiter, arbiter_in}
use Rattle.arb_model.specs.History.{History, IsLegal, entry_after, orders_in, settled_from, state_after}
use Rattle.arb_model.specs.Step.{step_of}
use Rattle.arb_desk.specs.declared.answer.Admission.{Admission}
use Rattle.arb_desk.specs.declared.answer.Admission.TheVariants.{Entered, Full}
use Rattle.arb_desk.specs.Answers.{IsFullPast}

-- a recorder, as contracts see it: the history so far, and for how many entries there is room
pub record Record : Type 0 where
  pub seen : History
  pub room : ℕ

-- a recorder can take an order: there is room for its entry, or the limit is reached, so that none is entered
abbrev pub IsReady : Machine → Record → Type 0
IsReady m r = orders_in r.seen < m.orders → 1 ≤ r.room

-- why no room could be made: one more order may be entered, and there was no room for its entry
abbrev pub WantsRoom : Machine → Record → Type 0
WantsRoom m r = (orders_in r.seen < m.orders) × (r.room ≡ 0)

-- an arbiter stands where a legal history leads
pub record StandsAt (m : Machine) (h : History) (a : Arbiter) : Type 0 where
  pub legal : IsLegal m h
  pub state : a ≡ arbiter_in m (state_after m h)

-- a history went on by posts alone
pub record GoesOnByPosts (before after : History) : Type 0 where
  pub posts : History
  pub alone : orders_in posts ≡ 0
  pub is : before ++ posts ≡ after

-- the entry of an order after a history, with the reply of the step in the state there
abbrev pub entry_of : Machine → History → ℕ → Order → Entry
entry_of m h client order = entry_after h client order (step_of m (state_after m h).standing client order).reply

-- an order was entered: there was room, its entry is the step's, its place is the number of orders before it, and all words that it left stale were posted
pub record IsAdmitted (m : Machine) (before : History) (client : ℕ) (order : Order) (entry : Entry) (place : ℕ) (after : History) : Type 0 where
  pub room : orders_in before < m.orders
  pub entered : entry ≡ entry_of m before client order
  pub at : place ≡ orders_in before
  pub seen : after ≡ settled_from m (before ++ EntryEvent entry ∷ [])

-- what comes of an order: it is entered; or the limit is reached, its client is named with the number of its entries, and nothing happens
abbrev pub Admits : Machine → History → ℕ → Order → Admission → History → Type 0
Admits m before client order (Entered entry place) after = IsAdmitted m before client order entry place after
Admits m before client order (Full whose number) after = IsFullPast m before client number × (whose ≡ client) × (after ≡ before)
