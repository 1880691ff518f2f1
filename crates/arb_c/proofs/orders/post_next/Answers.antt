use Rattle.std.proofs.Common.{rules}
use Rattle.arb_c.proofs.orders.post_next.Goals as goal

-- (what an edit makes wrong has an answer, so that it is refused at once)
pub returns-clause-posts : goal.returns-clause-posts
returns-clause-posts c = search rules
