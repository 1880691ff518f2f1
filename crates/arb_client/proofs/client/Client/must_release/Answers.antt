-- (what an edit makes wrong has an answer, so that it is refused at once)
use Rattle.std.proofs.Common.{rules}
use Rattle.arb_client.proofs.client.Client.must_release.Goals as goal

pub returns-clause-same : goal.returns-clause-same
returns-clause-same g c = search rules

pub returns-clause-thread : goal.returns-clause-thread
returns-clause-thread g c = search rules

pub returns-in_err-word-clause-clock : goal.returns-in_err-word-clause-clock
returns-in_err-word-clause-clock g c = search rules

pub returns-in_err-word-clause-same : goal.returns-in_err-word-clause-same
returns-in_err-word-clause-same g c = search rules
