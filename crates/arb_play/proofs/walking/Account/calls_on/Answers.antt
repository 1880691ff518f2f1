use Rattle.std.proofs.Common.{rules}
use Rattle.arb_play.proofs.walking.Account.calls_on.Goals as goal

-- (what an edit makes wrong has an answer, so that it is refused at once)
pub returns-then-is_none : goal.returns-then-is_none
returns-then-is_none c = search rules
