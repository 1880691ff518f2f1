use Rattle.std.proofs.Common.{rules}
use Rattle.arb_play.proofs.performing.NotBegun.of_play.Goals as goal

-- (what an edit makes wrong has an answer, so that it is refused at once)
pub returns-in-Start : goal.returns-in-Start
returns-in-Start c = search rules
