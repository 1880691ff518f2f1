-- What a handle holds.
use Rattle.std.specs.Prelude.{Option, option_map}
use Rattle.arb_model.specs.Arbiter.{Arbiter}
use Rattle.arb_c.specs.declared.handle.Handle.{Handle}
use Rattle.arb_c.specs.Holding.{Holding}

-- what a handle is open on, or none where it is closed
abbrev pub holding_of : Handle → Option Holding
holding_of handle = handle.held.value

-- the arbiter that a handle is open on, or none where it is closed
abbrev pub held_arbiter : Handle → Option Arbiter
held_arbiter handle = option_map (λ holding. holding.arbiter) (holding_of handle)
