use Rattle.std.proofs.Common.{rules}
use Rattle.arb_c.proofs.readers.voldazpe_lib_core_at.Goals as goal

-- (what an edit makes wrong has an answer, so that it is refused at once)
pub returns-clause-core : goal.returns-clause-core
returns-clause-core c = search rules
