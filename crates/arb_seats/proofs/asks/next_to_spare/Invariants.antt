use Rattle.arb_seats.proofs.Words.{◌≡◌, length, true, MatchOption, ◌&&◌, NextToSpare, holder_at, is_asked, is_of}
use Rattle.arb_seats.proofs.LoopLaws.{UpTo, positions_from}
use Rattle.arb_seats.proofs.PositionSetsLaws.{AreFrom, FirstAt}
use Rattle.arb_seats.proofs.asks.next_to_spare.Given as goal

abbrev pub invariant-loop-at : goal.invariant-loop-at
invariant-loop-at l = record {
  so_far : UpTo (length l.cores.cores) (λ n. NextToSpare l.cores.cores l.app n l.next) l.at;
  asked : MatchOption l.at (Unit {0}) (λ position. (is_of l.app (holder_at l.cores.cores position) && is_asked (holder_at l.cores.cores position)) ≡ true);
  first : FirstAt l.rest l.at;
  left : MatchOption l.at (Unit {0}) (λ position. AreFrom (λ p. is_of l.app (holder_at l.cores.cores p) && is_asked (holder_at l.cores.cores p)) position l.rest);
}

abbrev pub decreases-loop-at : goal.decreases-loop-at
decreases-loop-at l = positions_from l.at
