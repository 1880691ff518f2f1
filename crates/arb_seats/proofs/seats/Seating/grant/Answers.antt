use Rattle.arb_seats.proofs.Words.{arith, ◌≡◌, None, holder_at, next_core-free, position_or_len-lt}
use Rattle.arb_seats.proofs.MoveLaws.{granted_now, shown_granted}
use Rattle.arb_seats.proofs.seats.Seating.grant.Goals as goal

pub give-requires-clause-free : goal.give-requires-clause-free
give-requires-clause-free c = grind (arith, next_core-free)

pub invariant_of-self : goal.invariant_of-self
invariant_of-self c =
    let i = c.self.inside in
    let first = c.take_first-thread.ensures in
    let empty : holder_at i.cores.cores c.in-Some.position ≡ None = grind (arith, next_core-free) in
    rw (c.set.ensures, c.give.ensures, c.place_word.ensures, first.others)
    (shown_granted c.take_first-thread.result c.in-Some.position _ c.self.invariant first.is_thread (position_or_len-lt _ i.waiting (rw (← c.self.view_is) at c.requires.some_waiting))
    first.value (c.in-Some.ensures {u = tt}).0 empty)

pub returns-in-Some : goal.returns-in-Some
returns-in-Some c = grind (arith, granted_now)
