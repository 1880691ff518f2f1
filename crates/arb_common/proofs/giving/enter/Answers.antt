use Rattle.std.proofs.Common.{◌≡◌, ◌+◌, ◌++◌, ◌∷◌, [], arith, ap, ◌∙◌}
use Rattle.arb_model.specs.History.{History, entry_after, orders_in}
use Rattle.arb_model.specs.Reading.{reading}
use Rattle.arb_model.proofs.ReadingLaws.{reading_entered, reading_orders}
use Rattle.arb_common.specs.declared.table.Own.{Own}
use Rattle.arb_common.specs.declared.table.SeatView.{SeatView}
use Rattle.arb_common.specs.Giving.{entered_at, reply_at}
use Rattle.arb_common.specs.Views.{one_step, own_with}
use Rattle.arb_common.proofs.LimitLaws.{leads}
use Rattle.arb_common.proofs.giving.enter.Goals as goal

pub returns-then-count-common-clause-full : goal.returns-then-count-common-clause-full
returns-then-count-common-clause-full c =
    let common = c.args.common.now in
    let seen : History = c.args.seat.now.me.0.seen in
    let within = (leads common.table.shared.key seen common.machine c.requires.legal).within in
    let count = c.check_word-count.ensures in
    (count.seen, count.own, omega (arith, c.if-count-common.true, within, common.orders, count.value, reading_orders seen))

pub step_core-reply-requires-clause-room : goal.step_core-reply-requires-clause-room
step_core-reply-requires-clause-room c =
    let count = c.check_word-count.ensures in
    omega (arith, c.if-count-common.false, c.args.common.now.orders, count.value, reading_orders c.args.seat.now.me.0.seen, ap orders_in count.seen)

pub store_entry-requires-clause-value : goal.store_entry-requires-clause-value
store_entry-requires-clause-value c =
    let count = c.check_word-count.ensures in
    let h : History = c.step_core-reply.new.seat.me.0.seen in
    let reply = c.step_core-reply.result in
    omega (arith, reading_entered h (entry_after h c.args.client c.args.order.now reply), count.value, ap (λ (v : SeatView). reading v.seen 0) c.step_core-reply.ensures.steps.view, ap (λ (l : History). reading l 0) count.seen)

pub returns-clause-enters : goal.returns-clause-enters
returns-clause-enters c =
    let point : History = c.args.seat.now.me.0.seen in
    let before : Own = c.args.seat.now.me.0.own in
    let count = c.check_word-count.ensures in
    let s = c.step_core-reply.ensures.steps in
    let reply = c.step_core-reply.result in
    let at : c.step_core-reply.new.seat.me.0.seen ≡ point = ap (λ (v : SeatView). v.seen) s.view ∙ count.seen in
    let own : c.step_core-reply.new.seat.me.0.own ≡ one_step before = ap (λ (v : SeatView). v.own) s.view ∙ count.own in
    let two : before.steps + 1 + 1 ≡ before.steps + 2 = omega arith in (
      record {
        room = omega (arith, c.if-count-common.false, c.args.common.now.orders, count.value, reading_orders point);
        settled = c.requires.settled;
        reply_is = s.reply_is ∙ ap (λ (h : History). reply_at c.args.common.now.table.shared.key h c.args.client c.args.order.now) count.seen;
        seen = c.store_entry.ensures.seen ∙ ap (λ (h : History). h ++ entered_at h c.args.client c.args.order.now reply ∷ []) at;
      },
      c.store_entry.ensures.own ∙ (λ i. own_with (own i) (at i) (entered_at (at i) c.args.client c.args.order.now reply)) ∙ (λ i. record { mine = before.mine ++ orders_in point ∷ []; steps = two i; busy = before.busy }),
    )
