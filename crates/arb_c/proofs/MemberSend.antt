-- A member with its machine may go to another thread.
use denote.Param.Send.{IsSend}
use Rattle.arb_c.proofs.member.opened.OpenedMember.TheSendSync.{the_send as made}
use Rattle.arb_c.specs.contracts.member.opened.OpenedMember.{the_row}

pub member_send : IsSend the_row
member_send = made
