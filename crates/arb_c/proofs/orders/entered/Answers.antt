use Rattle.std.proofs.Common.{rules}
use Rattle.arb_c.proofs.orders.entered.Goals as goal

-- (what an edit makes wrong has an answer, so that it is refused at once)
pub returns-then-is_some-clause-code : goal.returns-then-is_some-clause-code
returns-then-is_some-clause-code c = search rules
