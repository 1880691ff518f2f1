use Rattle.std.proofs.Common.{arith}
use Rattle.arb_core.proofs.state.ArbiterState.step.Goals as goal

pub returns-clause-step : goal.returns-clause-step
returns-clause-step c =
    grind (arith, c.post_count.ensures, c.answer-reply.ensures.answer, c.count.ensures)

pub returns-clause-rest : goal.returns-clause-rest
returns-clause-rest c = grind (arith, c.post_count.ensures, c.answer-reply.ensures.rest, c.count.ensures)
