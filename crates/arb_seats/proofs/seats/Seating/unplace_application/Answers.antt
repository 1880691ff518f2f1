use Rattle.arb_seats.proofs.Words.{◌*◌, ap, ◌∙◌, arith, ◌==◌, unplaced, ShownSeats, threads}
use Rattle.arb_seats.proofs.LeavingLaws.{unplaced_next, unplaced_start}
use Rattle.arb_seats.proofs.ShownLaws.{seated}
use Rattle.arb_seats.proofs.seats.Seating.unplace_application.Goals as goal

pub loop-thread-init : goal.loop-thread-init
loop-thread-init c = grind (arith, unplaced_start)

pub loop-thread-preserved : goal.loop-thread-preserved
loop-thread-preserved c =
    let next = unplaced_next (c.args.app * threads) c.loop-thread.thread c.args.self.now.seats (omega arith) in
    c.unplace.ensures ∙ ap (λ (f : ShownSeats). seated f (unplaced (λ t. t == c.loop-thread.thread) f.seats)) c.loop-thread.invariant ∙ ap (seated c.args.self.now) next
