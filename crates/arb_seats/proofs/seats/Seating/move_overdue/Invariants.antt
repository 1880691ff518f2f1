use Rattle.arb_seats.proofs.Words.{length, MatchOption, is_asked, holder_at}
use Rattle.arb_seats.proofs.MovingLaws.{MovedFirst}
use Rattle.arb_seats.proofs.LoopLaws.{UpTo, positions_from}
use Rattle.arb_seats.proofs.PositionSetsLaws.{AreFrom, FirstAt}
use Rattle.arb_seats.proofs.seats.Seating.move_overdue.Given as goal

abbrev pub invariant-loop-next : goal.invariant-loop-next
invariant-loop-next l = record {
  so_far : UpTo (length l.fn.self.seats.cores) (MovedFirst l.grace l.moment l.fn.self l.self l.count) l.next;
  first : FirstAt l.rest l.next;
  left : MatchOption l.next (Unit {0}) (λ position. AreFrom (λ p. is_asked (holder_at l.fn.self.seats.cores p)) position l.rest);
}

abbrev pub decreases-loop-next : goal.decreases-loop-next
decreases-loop-next l = positions_from l.next
