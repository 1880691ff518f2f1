use Rattle.std.proofs.Common.{rules}
use Rattle.arb_script.proofs.line.read_line.Goals as goal

-- (what an edit makes wrong has an answer, so that it is refused at once)
pub returns-then-line-gt-MAX_LINE-clause-said : goal.returns-then-line-gt-MAX_LINE-clause-said
returns-then-line-gt-MAX_LINE-clause-said c = search rules
