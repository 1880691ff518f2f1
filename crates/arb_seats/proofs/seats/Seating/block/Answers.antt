use Rattle.arb_seats.proofs.Words.{arith}
use Rattle.arb_model.proofs.PlacesLaws.{places_unplaced_goes}
use Rattle.arb_seats.proofs.seats.Seating.block.Goals as goal

pub enqueue-requires-clause-nowhere : goal.enqueue-requires-clause-nowhere
enqueue-requires-clause-nowhere c = grind (arith, places_unplaced_goes)
