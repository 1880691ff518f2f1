use Rattle.std.proofs.Common.{rules, tests}
use Rattle.arb_live.proofs.AnsweredLaws.{AnsweredTo-failed, AnsweredTo-next}
use Rattle.arb_live.proofs.session.Session.take_bytes.Goals as goal

pub returns-in_err-rest-clause-answered : goal.returns-in_err-rest-clause-answered
returns-in_err-rest-clause-answered g c =
    AnsweredTo-failed c.loop-rest.invariant c.from_residual.result c.from_residual.ensures.0 (c.in_err-rest.ensures {u = tt}).answered

pub loop-rest-preserved : goal.loop-rest-preserved
loop-rest-preserved g c =
    let taken = c.in_ok-rest.ensures {u = tt} in
    AnsweredTo-next c.loop-rest.invariant _ taken.answered taken.begun taken.rest (search (rules, tests)) taken.counted
