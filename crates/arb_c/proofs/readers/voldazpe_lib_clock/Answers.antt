use Rattle.std.proofs.Common.{rules}
use Rattle.arb_c.proofs.readers.voldazpe_lib_clock.Goals as goal

-- (what an edit makes wrong has an answer, so that it is refused at once)
pub returns-clause-moment : goal.returns-clause-moment
returns-clause-moment c = search rules
