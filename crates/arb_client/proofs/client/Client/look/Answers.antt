-- (what an edit makes wrong has an answer, so that it is refused at once)
use Rattle.std.proofs.Common.{rules}
use Rattle.arb_client.proofs.client.Client.look.Goals as goal

pub returns-in-On-clause-core : goal.returns-in-On-clause-core
returns-in-On-clause-core g c = search rules

pub returns-in-Waiting-clause-failed : goal.returns-in-Waiting-clause-failed
returns-in-Waiting-clause-failed g c = search rules

pub returns-in-Waiting-2-clause-goes_on : goal.returns-in-Waiting-2-clause-goes_on
returns-in-Waiting-2-clause-goes_on g c = search rules
