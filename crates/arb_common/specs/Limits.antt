-- A machine with any limit on orders, and an arbiter that is renewed on the way.
use Rattle.std.specs.Prelude.{◌≡◌, ℕ, slice_set}
use Rattle.arb_config.specs.Machine.{IsMachine, Machine}
use Rattle.arb_model.specs.Arbiter.{Arbiter, IsArbiter}
use Rattle.arb_model.specs.History.{History, state_after}
use Rattle.arb_model.specs.Renewal.{DifferInCounts}

-- a machine with another limit on orders
abbrev pub with_limit : Machine → (limit : ℕ) → Machine
with_limit m limit = record m { orders = limit }

-- a machine but for its limit on orders, which may be any: it is a machine where that is 1
abbrev pub IsMachineOfAnyLimit : Machine → Type 0
IsMachineOfAnyLimit m = IsMachine (with_limit m 1)

-- an arbiter stands where a history leads, but for the counts of orders: it may have been renewed on the way
pub record StandsAt (m : Machine) (h : History) (a : Arbiter) : Type 0 where
  pub arbiter : IsArbiter a
  pub machine : with_limit a.machine m.orders ≡ m
  pub standing : DifferInCounts a.standing (state_after m h).standing
  pub posted : slice_set a.posted 0 0 ≡ slice_set (state_after m h).posted 0 0
