use Rattle.std.proofs.Common.{ℕ, ◌<◌, refl, rules, ◌∙◌, sym, ap, subst}
use Rattle.std.specs.Prelude.{sum}
use Rattle.arb_model.specs.History.{History, settled_from}
use Rattle.arb_model.specs.Limits.{clients}
use Rattle.arb_desk.specs.Answers.{IsFullPast}
use Rattle.arb_house.specs.Recording.{IsAdmitted}
use Rattle.arb_house.proofs.AdmissionLaws.{count_is, full_at, orders_at, room_at}
use Rattle.arb_house.proofs.publisher.Publisher.publish.Goals as goal

pub returns-then-is_full-clause-admits : goal.returns-then-is_full-clause-admits
returns-then-is_full-clause-admits g c =
    let i = c.self.invariant in
    let within : c.args.client < clients = subst (λ (n : ℕ). n < clients) c.index-within.ensures.value c.index-within.ensures.within in
    let full : IsFullPast g.K.Set.machine c.self.inside.writer.seen c.args.client c.count_of.result = record {
      limit = full_at _ _ _ i.2 i.0 (c.if-is_full.ensures.0 refl);
      count = sym (count_is _ _ _ _ _ i.2 i.0 within c.count_of.ensures);
    } in
    (subst (λ (h : History). IsFullPast g.K.Set.machine h c.args.client c.count_of.result) c.self.view_is full, refl, refl)

pub returns-clause-admits : goal.returns-clause-admits
returns-clause-admits g c =
    let i = c.self.invariant in
    let m = g.K.Set.machine in
    let before = c.self.inside.writer.seen in
    let after = c.post_all.new.writer.seen in
    let room : sum c.self.inside.core.standing.counts < c.self.inside.core.machine.orders = search rules in
    let admitted : IsAdmitted m before c.args.client c.args.order.now c.enter-entry.result c.orders-place.result after = record {
      room = room_at _ _ _ i.2 i.0 room;
      entered = c.enter-entry.ensures.entry;
      at = c.orders-place.ensures.total ∙ orders_at _ _ _ i.2 i.0;
      seen = c.post_all.ensures.seen ∙ ap (settled_from m) c.enter-entry.ensures.seen;
    } in
    subst (λ (h : History). IsAdmitted m h c.args.client c.args.order.now c.enter-entry.result c.orders-place.result after) c.self.view_is admitted
