use Rattle.std.proofs.Common.{rules}
use Rattle.arb_house.proofs.own_pasts.keep.Goals as goal

-- (what an edit makes wrong has an answer, so that it is refused at once)
pub returns-else-len-capacity-clause-kept : goal.returns-else-len-capacity-clause-kept
returns-else-len-capacity-clause-kept c = search rules
