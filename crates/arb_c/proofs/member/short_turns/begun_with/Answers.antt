use Rattle.std.proofs.Common.{◌≡◌, ◌∙◌, ℕ, Bool, ap, refl, rules, sym, subst}
use Rattle.std.specs.Arc.{arc_value}
use Rattle.arb_c.specs.MemberHolding.{MemberHolding}
use Rattle.arb_c.specs.Members.{BeginsWith}
use Rattle.arb_c.specs.Wire.{order_named}
use Rattle.arb_c.proofs.MemberLaws.{entered_as}
use Rattle.arb_c.proofs.member.short_turns.begun_with.Goals as goal

pub returns-clause-begins : goal.returns-clause-begins
returns-clause-begins c = λ _.
    let i = c.opened.inside in
    let before : MemberHolding = record { stance = i.member; described = arc_value i.described } in
    let begun : MemberHolding = record { stance = c.begin.new.self; described = arc_value i.described } in
    let after : MemberHolding = record { stance = c.step.new.self; described = arc_value i.described } in
    let b = c.if-not-begin.ensures in
    let s = c.in-Some-step.ensures in
    let client : c.in-Some.client ≡ c.args.client = search rules in
    let entered = entered_as begun c.begin.new.self c.step.new.self c.in-Some.client _ _ _ _ (sym c.order_of.ensures ∙ c.in-Ok.is) refl s.entered s.legal s.turn (sym b.turn) c.reply_of.ensures in
    let begins : BeginsWith before c.in-Some.client (order_named c.args.order.now) c.reply_of.result after = record {
      begun = begun;
      begins = record { begins = b.begins; rest = ap (λ (t : Bool). record before { stance = record { side = begun.stance.side; in_turn = t } }) b.turn };
      enters = entered;
    } in
    subst (λ (m : MemberHolding). BeginsWith m c.args.client (order_named c.args.order.now) c.reply_of.result after) c.opened.view_is
    (subst (λ (n : ℕ). BeginsWith before n (order_named c.args.order.now) c.reply_of.result after) client begins)
