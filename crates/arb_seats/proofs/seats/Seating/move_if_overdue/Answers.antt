use Rattle.arb_seats.proofs.Words.{arith}
use Rattle.arb_model.proofs.PlacesLaws.{places_unplaced_goes}
use Rattle.arb_seats.proofs.LeavingLaws.{unplaced_on}
use Rattle.arb_seats.proofs.MoveLaws.{holder_is_thread}
use Rattle.arb_seats.proofs.seats.Seating.move_if_overdue.Goals as goal

pub unplace-requires : goal.unplace-requires
unplace-requires c = grind (arith, holder_is_thread)

pub mark_moved-requires-clause-is_thread : goal.mark_moved-requires-clause-is_thread
mark_moved-requires-clause-is_thread c = grind (arith, holder_is_thread)

pub mark_moved-requires-clause-nowhere : goal.mark_moved-requires-clause-nowhere
mark_moved-requires-clause-nowhere c = grind (arith, places_unplaced_goes)

pub returns-in-Some-clause-moved : goal.returns-in-Some-clause-moved
returns-in-Some-clause-moved c = grind (arith, unplaced_on c.args.self.now.seats c.in-Some.holder.thread c.args.position)
