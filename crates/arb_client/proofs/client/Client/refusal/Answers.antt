-- (what an edit makes wrong has an answer, so that it is refused at once)
use Rattle.std.proofs.Common.{rules}
use Rattle.arb_client.proofs.client.Client.refusal.Goals as goal

pub returns-then-self : goal.returns-then-self
returns-then-self g c = search rules

pub returns-then-self-3 : goal.returns-then-self-3
returns-then-self-3 g c = search rules
