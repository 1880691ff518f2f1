use Rattle.std.proofs.Common.{rules, refl, inr}
use Rattle.arb_play.proofs.player.play.Goals as goal

-- (what an edit makes wrong has an answer, so that it is refused at once)

pub returns-in-Ok-clause-written : goal.returns-in-Ok-clause-written
returns-in-Ok-clause-written g c =
    let w = c.in-Ok.ensures {u = tt} in
    (w.0, w.1, w.2.written)

pub returns-in-Ok-clause-write_else : goal.returns-in-Ok-clause-write_else
returns-in-Ok-clause-write_else g c = inr (c.in-Ok.ensures {u = tt}).2.ok

pub returns-clause-write : goal.returns-clause-write
returns-clause-write g c = λ _. (c.in-Err.ensures {u = tt}).2.err

pub returns-clause-prefix : goal.returns-clause-prefix
returns-clause-prefix g c =
    let w = c.in-Err.ensures {u = tt} in
    λ _. (w.0, w.1, w.2.prefix)

pub returns-in_err-outcome-clause-write_else : goal.returns-in_err-outcome-clause-write_else
returns-in_err-outcome-clause-write_else g c = inr refl

pub returns-in_err-outcome-clause-untouched : goal.returns-in_err-outcome-clause-untouched
returns-in_err-outcome-clause-untouched g c = search rules
