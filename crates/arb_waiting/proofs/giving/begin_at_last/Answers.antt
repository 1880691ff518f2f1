use Rattle.arb_waiting.proofs.TryingLaws.{begins_at_last, tries_more, tries_none}
use Rattle.arb_waiting.proofs.giving.begin_at_last.Goals as goal

pub loop-init : goal.loop-init
loop-init g c = (tt, tt, c.requires.free, tries_none _)

pub loop-preserved : goal.loop-preserved
loop-preserved g c = (tt, tt, c.if-begin.ensures.turn, tries_more _ _ _ c.loop.invariant.3 c.if-begin.ensures.begins)

pub returns-then-begin-clause-begins : goal.returns-then-begin-clause-begins
returns-then-begin-clause-begins g c = begins_at_last _ _ _ c.loop.invariant.3 c.if-begin.ensures.begins
