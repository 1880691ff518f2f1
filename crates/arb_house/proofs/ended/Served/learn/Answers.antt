use Rattle.std.proofs.Common.{rules}
use Rattle.arb_house.proofs.ended.Served.learn.Goals as goal

-- (what an edit makes wrong has an answer, so that it is refused at once)
pub returns-clause-told : goal.returns-clause-told
returns-clause-told g c = search rules

pub returns-clause-same : goal.returns-clause-same
returns-clause-same g c = search rules
