-- (what an edit makes wrong has an answer, so that it is refused at once)
use Rattle.std.proofs.Common.{rules}
use Rattle.arb_client.proofs.client.Client.shut.Goals as goal

pub returns-clause-shut : goal.returns-clause-shut
returns-clause-shut g c = search rules

pub invariant_of-self : goal.invariant_of-self
invariant_of-self g c = search rules
