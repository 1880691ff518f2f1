use Rattle.std.proofs.Common.{rules}
use Rattle.arb_share.proofs.due_input.read_rows.Goals as goal

-- (what an edit makes wrong has an answer, so that it is refused at once)

pub returns-in_default-clause-taken : goal.returns-in_default-clause-taken
returns-in_default-clause-taken g c = search rules

pub returns-then-length-gt-MAX_INPUT-clause-taken : goal.returns-then-length-gt-MAX_INPUT-clause-taken
returns-then-length-gt-MAX_INPUT-clause-taken g c = search rules

pub returns-then-length-gt-MAX_INPUT-clause-read : goal.returns-then-length-gt-MAX_INPUT-clause-read
returns-then-length-gt-MAX_INPUT-clause-read g c = search rules

pub returns-clause-accepted : goal.returns-clause-accepted
returns-clause-accepted g c = search rules

pub returns-clause-too_long : goal.returns-clause-too_long
returns-clause-too_long g c = search rules

pub returns-clause-taken : goal.returns-clause-taken
returns-clause-taken g c = search rules
