use Rattle.arb_desk.proofs.RuleLaws.{take_keeps}
use Rattle.arb_desk.proofs.queue.take.Goals as goal

pub pop_as-requires-clause-rule : goal.pop_as-requires-clause-rule
pop_as-requires-clause-rule g c = (take_keeps _ _ c.requires.server, λ items views h here. tt)
