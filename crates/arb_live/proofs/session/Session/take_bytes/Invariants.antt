use Rattle.std.proofs.Common.{length}
use Rattle.arb_live.proofs.AnsweredLaws.{AnsweredTo}
use Rattle.arb_live.proofs.session.Session.take_bytes.Given as goal

abbrev pub decreases-loop-rest : goal.decreases-loop-rest
decreases-loop-rest g l = length l.rest

-- the lines before the rest are answered
abbrev pub invariant-loop-rest : goal.invariant-loop-rest
invariant-loop-rest g l =
    AnsweredTo g.S.TwoWay.told g.S.TwoWay.failed_reads g.S.TwoWay.failed_writes l.topology l.initial.stream l.stream l.initial.self l.self l.bytes l.rest
