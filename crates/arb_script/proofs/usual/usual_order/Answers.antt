use Rattle.arb_script.proofs.LineLaws.{ask_at, cap_first, order_at, tick_first}
use Rattle.arb_script.proofs.usual.usual_order.Goals as goal

pub returns-in-Some-skip-clause-order : goal.returns-in-Some-skip-clause-order
returns-in-Some-skip-clause-order c =
    ask_at c.args.text.now c.in-Some-skip.rest.now c.in_ok-entries.entries.now c.in_ok-request.request c.in_ok-request.used (rw c.as_bytes-2.ensures.value at c.in-Some-skip.ensures) (c.in_ok-entries.ensures {u = tt}) (c.in_ok-request.ensures {u = tt}).entries

pub returns-in-Some-skip-2-clause-order : goal.returns-in-Some-skip-2-clause-order
returns-in-Some-skip-2-clause-order c =
    order_at _ _ _ (cap_first c.args.text.now c.in-Some-skip-2.rest.now c.in_ok-skip.field-0.now _ _ (rw c.as_bytes-3.ensures.value at c.in-Some-skip-2.ensures) (c.in_ok-skip.ensures {u = tt}) (c.in_ok-cap.ensures {u = tt}))

pub returns-in-Some-skip-7-clause-order : goal.returns-in-Some-skip-7-clause-order
returns-in-Some-skip-7-clause-order c =
    order_at _ _ _ (tick_first c.args.text.now c.in-Some-skip-7.rest.now c.in_ok-skip-2.field-0.now _ _ (rw c.as_bytes-8.ensures.value at c.in-Some-skip-7.ensures) (c.in_ok-skip-2.ensures {u = tt}) (c.in_ok-moment.ensures {u = tt}))
