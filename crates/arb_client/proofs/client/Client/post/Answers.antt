use Rattle.std.proofs.Common.{◌≡◌, ◌≤◌, arith, ◌++◌, ◌∷◌, [], false, sym, ap, ◌∙◌, subst, rules, length, List, ◌-◌, ◌+◌}
use Rattle.std.specs.Prelude.{vec_capacity, vec_len}
use Rattle.arb_model.specs.declared.orders.Order.{Order}
use Rattle.arb_model.specs.declared.orders.Reply.{Reply}
use Rattle.arb_model.specs.History.{orders_in}
use Rattle.arb_model.proofs.ReadingLaws.{reading_orders}
use Rattle.arb_desk.specs.Answers.{IsFullPast}
use Rattle.arb_client.specs.Sides.{Side, StandIn, message, puts_of}
use Rattle.arb_client.proofs.SideLaws.{full_on, stand_on}
use Rattle.arb_client.proofs.client.Client.post.Goals as goal

pub invariant_of-self-2 : goal.invariant_of-self-2
invariant_of-self-2 g c =
    let i = c.self.invariant in
    let id = c.self.inside.id in
    let was = c.self.inside.mine.items in
    let seen = c.read-orders_seen.new.self.seen in
    let on = c.read-orders_seen.ensures.later in
    let same = sym c.reserve.ensures.items in (
      i.0,
      i.1,
      i.2,
      i.3,
      (λ full shut. i.4 full shut ∙ ap (λ m. puts_of id m c.self.inside.out.items) same),
      c.read-orders_seen.ensures.legal,
      subst (λ (m : List (Order × Reply)). StandIn id m seen) same (stand_on id was c.self.inside.reader.seen seen on i.6),
      search rules,
      i.8,
      i.9,
      i.10,
      (λ full. subst (λ (m : List (Order × Reply)). IsFullPast g.K.Set.machine seen id (length m)) same (full_on g.K.Set.machine c.self.inside.reader.seen seen id (length was) i.10 c.read-orders_seen.ensures.legal on (i.11 full))),
    )

pub returns-then-put_order-clause-posted : goal.returns-then-put_order-clause-posted
returns-then-put_order-clause-posted g c =
    let v = c.self.view_is ∙ c.look_for_end.ensures in
    let ended : c.look_for_end.new.self.ended ≡ false = search rules in
    let p = c.if-put_order.ensures in
    let seen = ap (λ (s : Side). s.seen) p in
    let room = ap (λ (s : Side). s.room) p in
    let count : c.read-orders_seen.result ≡ orders_in c.put_order.new.self.seen = c.read-orders_seen.ensures.value ∙ reading_orders c.read-orders_seen.new.self.seen ∙ ap orders_in (sym seen) in
    let was : c.args.self.now.room ≡ vec_capacity c.self.inside.mine - (vec_len c.self.inside.mine + vec_len c.self.inside.out) = ap (λ (s : Side). s.room) (sym v) in
    let kept : vec_capacity c.self.inside.mine ≤ vec_capacity c.reserve.new.self = search rules in
    let long : vec_len c.reserve.new.self ≡ vec_len c.self.inside.mine = search rules in
    record {
      accepts = search rules;
      later = search rules;
      room = omega (arith, was, kept, long, room);
      rest = p ∙ (λ k. record (v k) {
        seen = sym seen k;
        steps = sym (ap (λ (s : Side). s.steps) p) k;
        ended = (ap (λ (s : Side). s.ended) c.self.view_is ∙ ended) k;
        mine = (c.reserve.ensures.items ∙ ap (λ (s : Side). s.mine) v) k;
        out = (v k).out ++ record { order = c.args.order; orders_seen = count k } ∷ [];
        room = sym room k;
        put = (v k).put ++ message (v k).id c.args.order ∷ [];
      });
    }

pub returns-then-is_err-clause-refused : goal.returns-then-is_err-clause-refused
returns-then-is_err-clause-refused g c = search rules

pub returns-then-put_order-clause-one_load : goal.returns-then-put_order-clause-one_load
returns-then-put_order-clause-one_load g c = search rules

pub returns-else-put_order-clause-busy_load : goal.returns-else-put_order-clause-busy_load
returns-else-put_order-clause-busy_load g c = search rules
