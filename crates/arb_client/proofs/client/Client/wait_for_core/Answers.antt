-- (what an edit makes wrong has an answer, so that it is refused at once)
use Rattle.std.proofs.Common.{inl, rules}
use Rattle.arb_client.proofs.client.Client.wait_for_core.Goals as goal

pub returns-in-Err-clause-failed : goal.returns-in-Err-clause-failed
returns-in-Err-clause-failed g c = inl c.in-Err.ensures.failed

pub returns-in-Ok-Refused-clause-failed : goal.returns-in-Ok-Refused-clause-failed
returns-in-Ok-Refused-clause-failed g c = search rules
