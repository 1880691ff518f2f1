-- A held member may go to another thread: the member and the right to free its block name no thread.
use mir.Raw.{raw}
use base.Fraction.{full_share}
use base.Shift.{Keyless}
use denote.Exit.{Exit, unchanged, leaves, hidden, under}
use denote.RattleType.{RattleType}
use denote.Memory.{lone}
use denote.RawPtr.{Ptr, block_ptr, null_ptr, lies_at}
use denote.Struct.Struct.{exits_of}
use denote.Struct.Owning.{shape, fields, to}
use denote.Param.Send.{IsSend, AllSend, Quiet, owning_send, struct_send, part_keyless, sendable}
use Rattle.std.specs.Prelude.{Option, None, Some}
use Rattle.std.proofs.Crossing as crossing
use Rattle.arb_c.specs.MemberHolding.{MemberHolding}
use Rattle.arb_c.specs.contracts.member.opened.OpenedMember as opened_type
use Rattle.arb_c.proofs.MemberSend.{member_send}
use Rattle.arb_c.specs.Held.{heap}
use Rattle.arb_c.specs.HeldMember.{held_owns}
use Rattle.arb_c.specs.contracts.member.held.HeldMember.{the_row, the_type}

quiet : {D X : Type 0} (to : D → X) (e : Exit X) → Quiet e → Quiet (hidden (under to e))
quiet to unchanged q = λ x w. tt
quiet to (leaves L l S s r₀) q = λ d. q (to d)

lies : (R : RattleType) → IsSend R → (p : Ptr) (x : R.Denot) → Keyless (lies_at R full_share p x)
lies R s (block_ptr b o) x = part_keyless R s full_share x b o
lies R s null_ptr x = tt

held_keyless : (o : Option MemberHolding) (p : Ptr) → Keyless (held_owns o p)
held_keyless None p = tt
held_keyless (Some member) p = (lies opened_type.the_row member_send p member, crossing.frees.frees heap (raw (lone opened_type.the_row.mir)) p)

pub send : IsSend the_row
send =
    let all : AllSend (fields the_type) = (search sendable, tt) in
    owning_send the_type all (λ d. held_keyless d.value d.at)
    (λ k. quiet (to the_type) (exits_of k (fields the_type)) ((struct_send (shape the_type) all).leaving k))
