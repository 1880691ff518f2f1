use Rattle.arb_seats.proofs.Words.{◌≡◌, ◌*◌, unplaced, ShownSeats, threads}
use Rattle.arb_seats.proofs.LeavingLaws.{is_between}
use Rattle.arb_seats.proofs.seats.Seating.unplace_application.Given as goal

abbrev pub invariant-loop-thread : goal.invariant-loop-thread
invariant-loop-thread l =
    ◌≡◌ {A = ShownSeats} l.self (record { machine = l.fn.self.machine; seats = unplaced (is_between (l.app * threads) l.thread) l.fn.self.seats; posted = l.fn.self.posted })
