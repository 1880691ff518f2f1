use Rattle.arb_script.specs.declared.given.ClientOrder.{ClientOrder}
use Rattle.arb_script.proofs.ReportLaws.{given_is, standing_more}
use Rattle.arb_draw.proofs.recording.enter.Goals as goal

pub returns-clause-standing : goal.returns-clause-standing
returns-clause-standing c =
    let given : ClientOrder = record { client = c.client.result; order = c.order.result } in
    cc (c.answer.ensures.standing, c.requires.standing, standing_more c.args.core.now.machine c.args.script.now c.args.index given (given_is _ c.client.result c.order.result c.client.ensures c.order.ensures))
