use Rattle.std.proofs.Common.{rules}
use Rattle.arb_play.proofs.joining.earlier.Goals as goal

-- (what an edit makes wrong has an answer, so that it is refused at once)
pub returns-in-Some-Some : goal.returns-in-Some-Some
returns-in-Some-Some c = search rules
