use Rattle.std.proofs.Common.{◌≡◌, ◌∙◌, ℕ, rules, sym, subst}
use Rattle.std.specs.Arc.{arc_value}
use Rattle.arb_c.specs.MemberHolding.{MemberHolding}
use Rattle.arb_c.specs.Members.{EntersAs}
use Rattle.arb_c.specs.Wire.{order_named}
use Rattle.arb_c.proofs.MemberLaws.{entered_as}
use Rattle.arb_c.proofs.member.turns.entered.Goals as goal

pub returns-clause-enters : goal.returns-clause-enters
returns-clause-enters c = λ _.
    let i = c.opened.inside in
    let before : MemberHolding = record { stance = i.member; described = arc_value i.described } in
    let after : MemberHolding = record { stance = c.step.new.self; described = arc_value i.described } in
    let s = c.in-Some-step.ensures in
    let client : c.in-Some.client ≡ c.args.client = search rules in
    let entered = entered_as before c.is_settled.new.self c.step.new.self c.in-Some.client _ _ _ _ (sym c.order_of.ensures ∙ c.in-Ok.is) c.is_settled.ensures.same s.entered s.legal s.turn c.if-not-is_in_turn.ensures c.reply_of.ensures in
    subst (λ (m : MemberHolding). EntersAs m c.args.client (order_named c.args.order.now) c.reply_of.result after) c.opened.view_is
    (subst (λ (n : ℕ). EntersAs before n (order_named c.args.order.now) c.reply_of.result after) client entered)
