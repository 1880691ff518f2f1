-- What a member's handle is open on.
use Rattle.std.specs.Prelude.{ℕ, List}
use Rattle.arb_config.specs.Machine.{Machine}
use Rattle.arb_common.specs.Sides.{Stance}
use Rattle.arb_c.specs.declared.wire.WireCore.{WireCore}

-- what a text says of its machine: the machine, the limit on orders, and the unmanaged cores, each with its socket
pub record Description : Type 0 where
  pub machine : Machine
  pub limit : ℕ
  pub unmanaged : List WireCore

-- a member, in a turn or not, and what its arbiter's text says of the machine
pub record MemberHolding : Type 0 where
  pub stance : Stance
  pub described : Description
