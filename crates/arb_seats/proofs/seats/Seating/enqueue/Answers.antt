use Rattle.arb_seats.proofs.MoveLaws.{put_waiting}
use Rattle.arb_seats.proofs.seats.Seating.enqueue.Goals as goal

pub invariant_of-self : goal.invariant_of-self
invariant_of-self c =
    rw (c.push.ensures, c.set.ensures) (put_waiting c.self.invariant c.args.thread c.requires.is_thread (rw (← c.self.view_is) at c.requires.nowhere))
