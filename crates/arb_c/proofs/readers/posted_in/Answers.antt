use Rattle.std.proofs.Common.{rules}
use Rattle.arb_c.proofs.readers.posted_in.Goals as goal

-- (what an edit makes wrong has an answer, so that it is refused at once)
pub returns-clause-value : goal.returns-clause-value
returns-clause-value c = search rules
