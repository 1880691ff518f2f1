use Rattle.arb_desk.proofs.RuleLaws.{put_keeps}
use Rattle.arb_desk.proofs.queue.put.Goals as goal

pub push_as-requires-clause-rule : goal.push_as-requires-clause-rule
push_as-requires-clause-rule g c = (put_keeps _ _ _ _ c.requires.own.0 c.requires.own.1 c.requires.unclosed, λ items views h here. tt)
