use Rattle.std.proofs.Common.{rules}
use Rattle.arb_c.proofs.readers.voldazpe_lib_place.Goals as goal

-- (what an edit makes wrong has an answer, so that it is refused at once)
pub returns-clause-code : goal.returns-clause-code
returns-clause-code c = search rules

pub returns-clause-place : goal.returns-clause-place
returns-clause-place c = search rules
