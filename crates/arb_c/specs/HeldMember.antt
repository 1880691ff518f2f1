-- What a pointer to a member owns: nothing, or the block of the member and the right to free it.
use Rattle.std.specs.Prelude.{Option, None, Some}
use base.Fml.{Fml, ftrue}
use denote.RawPtr.{Ptr}
use Rattle.std.specs.Box.Ownership.{box_owns}
use Rattle.std.specs.contracts.impls.GlobalAllocator.TheImpl.{ghosts}
use Rattle.arb_c.specs.Held.{heap}
use Rattle.arb_c.specs.MemberHolding.{MemberHolding}
use Rattle.arb_c.specs.contracts.member.opened.OpenedMember as opened_type

-- what the pointer owns where it holds this
abbrev pub held_owns : Option MemberHolding → Ptr → Fml
held_owns None at = ftrue
held_owns (Some holding) at = box_owns (ghosts.dealloc_token heap) opened_type.the_row at holding
