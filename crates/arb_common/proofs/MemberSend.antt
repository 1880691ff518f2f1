-- A member, a turn and a note may go to another thread.
use denote.Param.Send.{IsSend}
use Rattle.arb_common.proofs.member.Member.TheSendSync.{the_send as member_made}
use Rattle.arb_common.proofs.note.Note.TheSendSync.{the_send as note_made}
use Rattle.arb_common.proofs.turn.Turn.TheSendSync.{the_send as turn_made}
use Rattle.arb_common.specs.contracts.member.Member.{the_row as member_row}
use Rattle.arb_common.specs.contracts.note.Note.{the_row as note_row}
use Rattle.arb_common.specs.contracts.turn.Turn.{the_row as turn_row}

pub member_send : IsSend member_row
member_send = member_made

pub turn_send : IsSend turn_row
turn_send = turn_made

pub note_send : IsSend note_row
note_send = note_made
