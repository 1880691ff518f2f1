use Rattle.std.proofs.Common.{rules, inr}
use Rattle.arb_share.proofs.due_input.due_run.Goals as goal

-- (what an edit makes wrong has an answer, so that it is refused at once)

pub returns-in-Ok-clause-written : goal.returns-in-Ok-clause-written
returns-in-Ok-clause-written g c = search rules

pub returns-in-Ok-clause-write_else : goal.returns-in-Ok-clause-write_else
returns-in-Ok-clause-write_else g c = inr (c.in-Ok.ensures {u = tt}).ok

pub returns-in-Err-clause-write : goal.returns-in-Err-clause-write
returns-in-Err-clause-write g c = λ _. (c.in-Err.ensures {u = tt}).err

pub returns-in-Err-clause-prefix : goal.returns-in-Err-clause-prefix
returns-in-Err-clause-prefix g c = search rules
