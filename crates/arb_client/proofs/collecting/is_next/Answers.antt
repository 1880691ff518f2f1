-- (what an edit makes wrong has an answer, so that it is refused at once)
use Rattle.std.proofs.Common.{rules}
use Rattle.arb_client.proofs.collecting.is_next.Goals as goal

pub returns-then-eq : goal.returns-then-eq
returns-then-eq c = search rules
