use Rattle.arb_seats.proofs.Words.{arith}
use Rattle.arb_seats.proofs.ShownLaws.{shown_word}
use Rattle.arb_seats.proofs.seats.Seating.post.Goals as goal

pub returns : goal.returns
returns c = grind (arith, shown_word)
