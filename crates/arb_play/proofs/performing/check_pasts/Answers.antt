use Rattle.std.proofs.Common.{rules}
use Rattle.arb_play.proofs.performing.check_pasts.Goals as goal

-- (what an edit makes wrong has an answer, so that it is refused at once)

pub returns-in-Ok-clause-in_full : goal.returns-in-Ok-clause-in_full
returns-in-Ok-clause-in_full g c = search rules

pub returns-in-Ok-clause-agrees : goal.returns-in-Ok-clause-agrees
returns-in-Ok-clause-agrees g c = (c.in-Ok.ensures {u = tt}).agrees
