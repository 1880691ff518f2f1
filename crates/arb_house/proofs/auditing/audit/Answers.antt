use Rattle.std.proofs.Common.{rules}
use Rattle.arb_house.proofs.auditing.audit.Goals as goal

-- (what an edit makes wrong has an answer, so that it is refused at once)
pub returns-clause-agrees : goal.returns-clause-agrees
returns-clause-agrees g c = search rules

pub returns-clause-finds : goal.returns-clause-finds
returns-clause-finds g c = search rules
