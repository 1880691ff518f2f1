use Rattle.std.proofs.Common.{◌≡◌, [], ◌∷◌, ◌++◌, length, length-append, arith, ap, sym, subst, ◌∙◌}
use Rattle.atomic_table.specs.Table.{Me}
use Rattle.arb_model.specs.Arbiter.{Arbiter}
use Rattle.arb_model.specs.History.{History, IsSettled, settled_from}
use Rattle.arb_common.specs.declared.table.Own.{Own}
use Rattle.arb_common.specs.declared.table.SeatView.{SeatView}
use Rattle.arb_common.specs.Giving.{entered_at}
use Rattle.arb_common.proofs.StandLaws.{stands_at}
use Rattle.arb_common.proofs.giving.enter_and_post.Goals as goal

pub returns-clause-gives : goal.returns-clause-gives
returns-clause-gives c =
    let m = c.args.common.now.table.shared.key in
    let point : History = c.args.seat.now.me.0.seen in
    let e = c.in-Some.ensures.enters in
    let p = c.post_all.ensures in
    let up = c.leave_lock-2.ensures.view in
    let next : History = point ++ entered_at point c.args.client c.args.order.now c.in-Some.reply ∷ [] in
    let same : c.leave_lock-2.new.seat.me.0.seen ≡ c.post_all.new.seat.me.0.seen = ap (λ (me : Me Arbiter SeatView). me.0.seen) up in
    let seen : c.leave_lock-2.new.seat.me.0.seen ≡ settled_from m next = same ∙ p.seen ∙ ap (settled_from m) e.0.seen in
    let quiet : IsSettled m c.leave_lock-2.new.seat.me.0.seen = subst (IsSettled m) (sym same) p.settled in (
      record { room = e.0.room; settled = c.requires.settled; reply_is = e.0.reply_is; seen = seen; quiet = quiet; place = stands_at m point c.args.client c.args.order.now c.in-Some.reply _ seen },
      record {
        mine = ap (λ (me : Me Arbiter SeatView). me.0.own.mine) up ∙ p.mine ∙ ap (λ (o : Own). o.mine) e.1;
        busy = ap (λ (me : Me Arbiter SeatView). me.0.own.busy) up ∙ p.busy ∙ ap (λ (o : Own). o.busy) e.1;
        steps = omega (arith, ap (λ (me : Me Arbiter SeatView). me.0.own.steps) up, p.steps, ap (λ (o : Own). o.steps) e.1, ap length e.0.seen, length-append point (entered_at point c.args.client c.args.order.now c.in-Some.reply ∷ []), ap length same);
      },
    )
