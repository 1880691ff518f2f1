use Rattle.arb_seats.proofs.SettlingLaws.{shown_settled}
use Rattle.arb_seats.proofs.ShownLaws.{shown_word}
use Rattle.arb_seats.proofs.seats.Seating.settle.Goals as goal

pub invariant_of-self : goal.invariant_of-self
invariant_of-self c = shown_settled c.self.invariant c.settle.ensures

pub returns-clause-posted : goal.returns-clause-posted
returns-clause-posted c = λ w some less. rw (c.settle.ensures, ← c.self.view_is) (shown_word w c.self.invariant some less)
