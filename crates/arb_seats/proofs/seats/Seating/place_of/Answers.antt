use Rattle.arb_seats.proofs.Words.{arith}
use Rattle.arb_seats.proofs.PlaceWordsLaws.{place_in_off, place_in_on}
use Rattle.arb_seats.proofs.seats.Seating.place_of.Goals as goal

pub returns-in-Some : goal.returns-in-Some
returns-in-Some c = grind (arith, place_in_on)

pub returns-then-self-thread : goal.returns-then-self-thread
returns-then-self-thread c = grind (arith, place_in_off)

pub returns-then-is_waiting : goal.returns-then-is_waiting
returns-then-is_waiting c = grind (arith, place_in_off)

pub returns : goal.returns
returns c = grind (arith, place_in_off)
