use Rattle.arb_core.proofs.StateLaws.{answered-as}
use Rattle.arb_core.proofs.state.ArbiterState.answer_one.Goals as goal

pub returns-clause-answer : goal.returns-clause-answer
returns-clause-answer c =
    answered-as c.args.self.now c.change-moved.new.self c.rebalance.new.self c.args.client c.args.order.now c.change-moved.result c.reply.result c.in_default.ensures
    c.change-moved.ensures.change c.change-moved.ensures.moved c.rebalance.ensures c.reply.ensures
