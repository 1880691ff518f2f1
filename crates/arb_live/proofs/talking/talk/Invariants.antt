use Rattle.std.proofs.Common.{◌≡◌}
use Rattle.arb_live.specs.Pieces.{IsReady, reported}
use Rattle.arb_live.proofs.TalkedLaws.{Talked}
use Rattle.arb_live.proofs.talking.talk.Given as goal

-- after so many reads all complete lines are answered, and no call failed
abbrev pub invariant-loop-turn : goal.invariant-loop-turn
invariant-loop-turn g l = record {
  talked : Talked (reported l.fn.orders l.topology) (g.S.TwoWay.told l.initial.stream) (g.S.TwoWay.told l.stream) l.session l._turn;
  ready : IsReady l.topology l.session.answerer;
  orders : l.session.answerer.orders ≡ l.fn.orders;
  reads : g.S.TwoWay.failed_reads l.stream ≡ g.S.TwoWay.failed_reads l.initial.stream;
  writes : g.S.TwoWay.failed_writes l.stream ≡ g.S.TwoWay.failed_writes l.initial.stream;
}
