use Rattle.arb_seats.proofs.Words.{◌-◌, ◌≤◌}
use Rattle.arb_seats.proofs.AskingLaws.{AskingLeft}
use Rattle.arb_seats.proofs.seats.Seating.ask_app.Given as goal

abbrev pub invariant-loop-asked : goal.invariant-loop-asked
invariant-loop-asked l = AskingLeft l.app l.due l.clock l.over l.asked l.fn.self l.self

abbrev pub decreases-loop-asked : goal.decreases-loop-asked
decreases-loop-asked l = l.over - l.asked

abbrev pub invariant-loop-asked-2 : goal.invariant-loop-asked-2
invariant-loop-asked-2 l = record { left : AskingLeft l.app l.due l.clock l.over l.asked l.fn.self l.self; enough : l.over ≤ l.asked }

abbrev pub decreases-loop-asked-2 : goal.decreases-loop-asked-2
decreases-loop-asked-2 l = l.asked - l.over
