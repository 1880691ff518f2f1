use Rattle.std.proofs.Common.{rules, arith, ◌+◌, ◌++◌, sym, ap, ◌∙◌, append_assoc}
use Rattle.std.proofs.lemmas.Grind.{common_steps}
use Rattle.arb_script.specs.declared.given.ClientOrder.{ClientOrder}
use Rattle.arb_script.proofs.OutputLaws.{Moves-next, Moves-prefix, Sends-failed}
use Rattle.arb_script.proofs.ReportLaws.{given_is, line_next, lines_parts, standing_more}
use Rattle.arb_script.proofs.runner.write_orders.Goals as goal

pub loop-index-init : goal.loop-index-init
loop-index-init g c = search rules

pub order-order-requires : goal.order-order-requires
order-order-requires g c = search rules

pub client-requires : goal.client-requires
client-requires g c = search rules

pub answer-requires : goal.answer-requires
answer-requires g c = search rules

pub returns-in_err-put-clause-sent : goal.returns-in_err-put-clause-sent
returns-in_err-put-clause-sent g c =
    let m = c.args.core.now.machine in
    let out = c.args.output.now in
    let i = c.loop-index.invariant in
    let parts = lines_parts m c.args.script.now (c.loop-index.index + 1) in
    let next = line_next m _ c.args.script.now c.loop-index.index _ _ _ out c.answer.new.line c.client.ensures c.order-order.ensures i.machine i.standing c.answer.ensures.line in
    let failed = c.in_err-put.ensures {u = tt} in
    Sends-failed c.from_residual.result c.from_residual.ensures.0
    (Moves-prefix _ _ _ _ _ _ parts.0 _ (ap (λ l. out ++ l) parts.1 ∙ sym (append_assoc out _ parts.0) ∙ ap (λ l. l ++ parts.0) next) i.moved failed.prefix)
    (λ same. failed.err (same ∙ sym i.kept))

pub returns-in_err-put-clause-standing : goal.returns-in_err-put-clause-standing
returns-in_err-put-clause-standing g c = search rules

pub returns-in_err-put-clause-machine : goal.returns-in_err-put-clause-machine
returns-in_err-put-clause-machine g c = search rules

pub loop-index-preserved : goal.loop-index-preserved
loop-index-preserved g c =
    let m = c.args.core.now.machine in
    let script = c.args.script.now in
    let index = c.loop-index.index in
    let i = c.loop-index.invariant in
    let given : ClientOrder = record { client = c.client.result; order = c.order-order.result } in
    let sent = c.in_ok-put.ensures {u = tt} in
    record {
      moved = Moves-next _ _ _ _ _ _ _ _ (line_next m _ script index _ _ _ c.args.output.now c.answer.new.line c.client.ensures c.order-order.ensures i.machine i.standing c.answer.ensures.line) i.moved sent.moved;
      standing = cc (c.answer.ensures.standing, i.machine, i.standing, standing_more m script index given (given_is _ c.client.result c.order-order.result c.client.ensures c.order-order.ensures));
      machine = c.answer.ensures.machine ∙ i.machine;
      settled = c.answer.ensures.settled;
      kept = sent.ok ∙ i.kept;
    }

pub returns-clause-sent : goal.returns-clause-sent
returns-clause-sent g c = grind (arith, common_steps)

pub returns-clause-standing : goal.returns-clause-standing
returns-clause-standing g c = grind (arith, common_steps)

pub returns-clause-machine : goal.returns-clause-machine
returns-clause-machine g c = search rules
