use Rattle.std.proofs.Common.{rules}
use Rattle.arb_play.proofs.floor.Visit.begin.Goals as goal

-- (so a visit that begins with no order left is refused at once)
pub returns : goal.returns
returns c = search rules
