use Rattle.arb_desk.proofs.RuleLaws.{pass_keeps}
use Rattle.arb_desk.proofs.queue.admit.Goals as goal

pub another-requires-clause-rule : goal.another-requires-clause-rule
another-requires-clause-rule g c = rw (← c.requires.client) (pass_keeps _ _ _ c.requires.server c.requires.new)
