use Rattle.arb_seats.proofs.Words.{arith, position_named}
use Rattle.arb_seats.proofs.LeavingLaws.{unplaced_marked, unplaced_nowhere, unplaced_on, unplaced_queued}
use Rattle.arb_seats.proofs.MoveLaws.{taken_moved, taken_off, taken_queued, taken_unasked}
use Rattle.arb_seats.proofs.seats.Seating.unplace.Goals as goal

pub returns-then-word-eq-UNMANAGED : goal.returns-then-word-eq-UNMANAGED
returns-then-word-eq-UNMANAGED c = grind (arith, unplaced_nowhere c.args.self.now.seats c.args.thread)

pub invariant_of-self : goal.invariant_of-self
invariant_of-self c = rw c.set.ensures (taken_moved c.self.invariant c.args.thread c.requires (grind arith))

pub returns-then-word-eq-MOVED : goal.returns-then-word-eq-MOVED
returns-then-word-eq-MOVED c = grind (arith, unplaced_marked)

pub invariant_of-self-then-word-eq-WAITING : goal.invariant_of-self-then-word-eq-WAITING
invariant_of-self-then-word-eq-WAITING c =
    rw (c.remove.ensures, c.set.ensures) (taken_queued c.self.invariant c.args.thread c.requires (grind arith))

pub returns-then-word-eq-WAITING : goal.returns-then-word-eq-WAITING
returns-then-word-eq-WAITING c = grind (arith, unplaced_queued c.args.self.now.seats c.args.thread)

pub invariant_of-self-then-asked : goal.invariant_of-self-then-asked
invariant_of-self-then-asked c =
    let left = taken_off c.self.invariant (position_named c.place_word-word.result) c.args.thread (grind arith) in
    rw (c.show_release.ensures, c.set.ensures, c.free_up.ensures, c.application_of.ensures, c.half_at.ensures) (rw left.0 at left.1)

pub invariant_of-self-else-asked : goal.invariant_of-self-else-asked
invariant_of-self-else-asked c =
    rw (c.set.ensures, c.free_up.ensures) (taken_unasked c.self.invariant (position_named c.place_word-word.result) c.args.thread (grind arith) (grind arith))

pub returns-then-asked : goal.returns-then-asked
returns-then-asked c = grind (arith, unplaced_on)

pub returns-else-asked : goal.returns-else-asked
returns-else-asked c = grind (arith, unplaced_on)
