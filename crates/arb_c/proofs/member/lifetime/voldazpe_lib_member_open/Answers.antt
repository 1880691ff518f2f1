use Rattle.std.proofs.Common.{rules}
use Rattle.arb_c.proofs.member.lifetime.voldazpe_lib_member_open.Goals as goal

-- (what an edit makes wrong has an answer, so that it is refused at once)
pub returns-then-is_open-clause-opens : goal.returns-then-is_open-clause-opens
returns-then-is_open-clause-opens c = search rules

pub returns-then-is_open-clause-done : goal.returns-then-is_open-clause-done
returns-then-is_open-clause-done c = search rules

pub returns-then-is_open-clause-again : goal.returns-then-is_open-clause-again
returns-then-is_open-clause-again c = search rules

pub returns-then-text-gt-MAX_TEXT-clause-done : goal.returns-then-text-gt-MAX_TEXT-clause-done
returns-then-text-gt-MAX_TEXT-clause-done c = search rules

pub returns-then-text-gt-MAX_TEXT-clause-long : goal.returns-then-text-gt-MAX_TEXT-clause-long
returns-then-text-gt-MAX_TEXT-clause-long c = search rules

pub returns-then-text-gt-MAX_TEXT-clause-text : goal.returns-then-text-gt-MAX_TEXT-clause-text
returns-then-text-gt-MAX_TEXT-clause-text c = search rules

pub returns-then-text-gt-MAX_TEXT-clause-fault : goal.returns-then-text-gt-MAX_TEXT-clause-fault
returns-then-text-gt-MAX_TEXT-clause-fault c = search rules
