use Rattle.std.proofs.Common.{rules}
use Rattle.arb_house.proofs.clients.Roster.close.Goals as goal

-- (what an edit makes wrong has an answer, so that it is refused at once)
pub returns-then-not-index : goal.returns-then-not-index
returns-then-not-index c = search rules
