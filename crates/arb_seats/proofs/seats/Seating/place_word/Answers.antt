use Rattle.arb_seats.proofs.MoveLaws.{word_tells}
use Rattle.arb_seats.proofs.seats.Seating.place_word.Goals as goal

pub returns-clause-tells : goal.returns-clause-tells
returns-clause-tells c = rw (← c.self.view_is, c.word.ensures) (word_tells c.self.invariant c.args.thread c.requires)
