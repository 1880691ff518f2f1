-- What an arbiter is, to its callers.
use Rattle.std.specs.Prelude.{ℕ, ◌≤◌, List, sum}
use Rattle.arb_config.specs.Machine.{Machine, IsMachine}
use Rattle.arb_model.specs.Standing.{Standing}
use Rattle.arb_model.specs.History.{State, beginning}
use Rattle.arb_model.specs.Consistent.{IsConsistent}

-- an arbiter: its machine, the standing that it is in, and the page words as they were posted
pub record Arbiter : Type 0 where
  pub machine : Machine
  pub standing : Standing
  pub posted : List ℕ

-- the state of an arbiter, as histories have it
abbrev pub state_of : Arbiter → State
state_of a = record { standing = a.standing; posted = a.posted }

-- the arbiter of a machine in a state
abbrev pub arbiter_in : Machine → State → Arbiter
arbiter_in m k = record { machine = m; standing = k.standing; posted = k.posted }

-- a machine's arbiter before all orders, all of its words 0
abbrev pub opening_arbiter : Machine → Arbiter
opening_arbiter m = arbiter_in m (beginning m)

-- what holds of every arbiter, between two posts as well
pub record IsArbiter (a : Arbiter) : Type 0 where
  pub machine : IsMachine a.machine
  pub consistent : IsConsistent a.machine (state_of a)
  -- no more orders were entered than the limit
  pub within : sum a.standing.counts ≤ a.machine.orders
