use Rattle.arb_seats.proofs.Words.{◌≡◌, socket_by_position}
use Rattle.arb_seats.proofs.AskingLaws.{AreUneven, asked_apps, first_left, with_cores}
use Rattle.arb_seats.proofs.BitsLaws.{FirstOf}
use Rattle.arb_seats.proofs.LoopLaws.{positions_from}
use Rattle.arb_seats.proofs.seats.Seating.ask_back.Given as goal

-- the applications before the next uneven one had their turn
abbrev pub invariant-loop-next : goal.invariant-loop-next
invariant-loop-next l = record {
  turns : l.self ≡ with_cores l.fn.self (asked_apps (socket_by_position l.fn.self.machine) l.due l.clock l.fn.self.seats.cores (first_left (socket_by_position l.fn.self.machine) l.due l.clock l.fn.self.seats.cores l.next));
  left : AreUneven (socket_by_position l.fn.self.machine) l.due l.clock l.fn.self.seats.cores (first_left (socket_by_position l.fn.self.machine) l.due l.clock l.fn.self.seats.cores l.next) l.uneven;
  first : FirstOf l.uneven l.next;
}

abbrev pub decreases-loop-next : goal.decreases-loop-next
decreases-loop-next l = positions_from l.next
