use Rattle.arb_seats.proofs.Words.{arith}
use Rattle.arb_seats.proofs.MoveLaws.{holder_is_thread, marked}
use Rattle.arb_seats.proofs.seats.Seating.mark.Goals as goal

pub invariant_of-self : goal.invariant_of-self
invariant_of-self c =
    let told = marked c.self.invariant c.args.position c.args.holder c.args.asked (grind arith) in
    rw (c.show_release.ensures, c.set.ensures, c.set_asked.ensures, c.place_word.ensures, c.is_some.ensures, c.application_of.ensures, c.half_at.ensures) (rw told.0 at told.1)

pub set-requires-clause-within : goal.set-requires-clause-within
set-requires-clause-within c = grind (arith, holder_is_thread)

pub show_release-requires : goal.show_release-requires
show_release-requires c = grind (arith, holder_is_thread)
