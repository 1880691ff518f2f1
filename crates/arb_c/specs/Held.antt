-- What a pointer to an arbiter owns: nothing, or the block of the arbiter and the right to free it.
use Rattle.std.specs.Prelude.{Option, None, Some}
use base.Fml.{Fml, ftrue}
use denote.RawPtr.{Ptr}
use Rattle.std.specs.Box.Ownership.{box_owns}
use Rattle.std.specs.contracts.impls.GlobalAllocator.TheImpl.{ghosts}
use Rattle.std.specs.declared.alloc.Global.{Global}
use Rattle.arb_c.specs.Holding.{Holding}
use Rattle.arb_c.specs.contracts.opened.Opened as opened_type

-- the heap's handle: there is one
abbrev pub heap : Global
heap = record { memory = record { seal = tt } }

-- what the pointer owns where it holds this
abbrev pub held_owns : Option Holding → Ptr → Fml
held_owns None at = ftrue
held_owns (Some holding) at = box_owns (ghosts.dealloc_token heap) opened_type.the_row at holding
