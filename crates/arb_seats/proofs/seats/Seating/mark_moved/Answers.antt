use Rattle.arb_seats.proofs.MoveLaws.{put_moved}
use Rattle.arb_seats.proofs.seats.Seating.mark_moved.Goals as goal

pub invariant_of-self : goal.invariant_of-self
invariant_of-self c = rw c.set.ensures (put_moved c.self.invariant c.args.thread c.requires.is_thread (rw (← c.self.view_is) at c.requires.nowhere))
