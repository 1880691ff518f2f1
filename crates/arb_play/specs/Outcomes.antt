-- What is true of an outcome.
use Rattle.std.specs.Prelude.{ℕ, ◌≡◌, List, slice_index}
use Rattle.arb_config.specs.Machine.{Machine}
use Rattle.arb_model.specs.Arbiter.{arbiter_in}
use Rattle.arb_model.specs.History.{History, entries_of, state_after}
use Rattle.arb_script.specs.declared.given.ClientOrder.{ClientOrder}
use Rattle.arb_play.specs.declared.outcome.Outcome.{Outcome}
use Rattle.arb_play.specs.Scripts.{ComesOf, full_in}

-- the orders of a script that came past the limit
abbrev pub full_orders : (full_from : List ℕ) → (script : List ClientOrder) → List ClientOrder
full_orders full_from script = full_in (slice_index full_from) 0 script

-- the journal is the entries of a history that came of the script, and the arbiter stands after it
pub record IsOutcome (m : Machine) (script : List ClientOrder) (outcome : Outcome) : Type 0 where
  pub history : History
  pub journal : outcome.journal.items ≡ entries_of history
  pub core : outcome.core ≡ arbiter_in m (state_after m history)
  pub comes : ComesOf m script history (full_orders outcome.full_from script)
