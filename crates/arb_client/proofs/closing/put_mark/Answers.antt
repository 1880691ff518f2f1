-- (what an edit makes wrong has an answer, so that it is refused at once)
use Rattle.std.proofs.Common.{rules}
use Rattle.arb_client.proofs.closing.put_mark.Goals as goal

pub returns-then-has_ended-clause-put : goal.returns-then-has_ended-clause-put
returns-then-has_ended-clause-put g c = search rules
