-- A waiting member may go to another thread.
use denote.Param.Send.{IsSend}
use Rattle.arb_waiting.proofs.member.WaitingMember.TheSendSync.{the_send as member_made}
use Rattle.arb_waiting.specs.contracts.member.WaitingMember.{the_row as member_row}

pub waiting_member_send : IsSend member_row
waiting_member_send = member_made
