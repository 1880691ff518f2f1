-- (what an edit makes wrong has an answer, so that it is refused at once)
use Rattle.std.proofs.Common.{rules}
use Rattle.arb_client.proofs.client.Client.id.Goals as goal

pub returns : goal.returns
returns g c = search rules
