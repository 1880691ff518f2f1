use Rattle.arb_seats.proofs.ShownLaws.{next_posted, shown_words}
use Rattle.arb_seats.proofs.seats.Seating.post_next.Goals as goal

pub returns-clause-next : goal.returns-clause-next
returns-clause-next c = λ s same total.
    rw (← c.self.view_is) (next_posted c.post_next.result s c.self.inside.table c.post_next.new.self (shown_words _ c.self.inside.table s c.self.invariant (rw (← c.self.view_is) at same) (rw (← c.self.view_is) at total)) c.post_next.ensures.next)
