use Rattle.std.proofs.Common.{rules}
use Rattle.arb_house.proofs.ended.Ended.reconcile.Goals as goal

-- (what an edit makes wrong has an answer, so that it is refused at once)
pub returns-clause-mine : goal.returns-clause-mine
returns-clause-mine g c = search rules
