-- What an answer says, and what holds of it.
use Rattle.std.specs.Prelude.{ℕ, ◌≡◌, Some, slice_get}
use Rattle.arb_config.specs.Machine.{Machine}
use Rattle.arb_model.specs.History.{History, IsSettled, count_of, entries_of, orders_in}
use Rattle.arb_desk.specs.declared.answer.Admission.{Admission}
use Rattle.arb_desk.specs.declared.answer.Admission.TheVariants.{Entered, Full}

-- an answer, as contracts see it: what came of the order, and the history that the note carries
pub record Told : Type 0 where
  pub admission : Admission
  pub seen : History

-- a history is full past a client's entries: it has as many orders as the limit, and so many of them are the client's. So it has no entry of the client of that number, and neither has any that goes on from it
pub record IsFullPast (m : Machine) (h : History) (client number : ℕ) : Type 0 where
  pub limit : orders_in h ≡ m.orders
  pub count : count_of h client ≡ number

-- what came of an order stands in a history: its entry is there at its place, and no word is stale; or the history is full past the client's entries, so that none of the order's number is there
abbrev pub StandsIn : Machine → Admission → History → Type 0
StandsIn m (Entered entry place) h = (slice_get (entries_of h) place ≡ Some entry) × IsSettled m h
StandsIn m (Full client number) h = IsFullPast m h client number
