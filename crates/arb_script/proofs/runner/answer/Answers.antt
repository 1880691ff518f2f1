use Rattle.arb_script.proofs.runner.answer.Goals as goal

-- (what an edit makes wrong has an answer, so that it is refused at once)
pub returns-clause-settled : goal.returns-clause-settled
returns-clause-settled c = c.settle.ensures.settled
