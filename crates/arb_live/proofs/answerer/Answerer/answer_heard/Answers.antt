use Rattle.std.proofs.Common.{◌∙◌, refl}
use Rattle.arb_live.proofs.OrdersLaws.{answered_order}
use Rattle.arb_live.proofs.answerer.Answerer.answer_heard.Goals as goal

pub returns-in-Order-clause-answered : goal.returns-in-Order-clause-answered
returns-in-Order-clause-answered g c = λ line is.
    let entered = c.answer_order.ensures in
    let machine = c.requires.ready.machine in
    answered_order c.send.result line c.in-Order.given c.answer_order.new.line (is ∙ c.in-Order.is) (rw c.as_bytes.ensures at c.send.ensures.sent) c.send.ensures.counts
    (rw machine at entered.line) (rw machine at entered.stands)
    refl c.requires.room refl (record { machine = entered.machine ∙ machine; settled = entered.settled })
