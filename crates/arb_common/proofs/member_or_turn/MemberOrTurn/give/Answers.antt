use Rattle.std.proofs.Common.{◌∙◌, sym, ap, subst}
use Rattle.arb_config.specs.Machine.{Machine}
use Rattle.arb_model.specs.History.{IsLegal, orders_in}
use Rattle.arb_common.specs.declared.member.Common.{Common}
use Rattle.arb_common.specs.declared.table.Own.{Own}
use Rattle.arb_common.specs.Places.{Rises}
use Rattle.arb_common.specs.Sides.{Stance}
use Rattle.arb_common.specs.Views.{free_seat}
use Rattle.arb_common.proofs.StandLaws.{as_free, rises_given}
use Rattle.arb_common.proofs.member_or_turn.MemberOrTurn.give.Goals as goal

pub invariant_of-self-2 : goal.invariant_of-self-2
invariant_of-self-2 c =
    let i = c.self.invariant in
    let a = c.enter_and_post.ensures in
    let t = c.if-not-take_lock.ensures.view in
    let now = c.enter_and_post.new.seat.me.0 in
    let key = ap (λ (x : Common). x.table.shared.key) c.deref-2.ensures in
    let free = ap (λ (s : Stance). s.in_turn) c.self.view_is ∙ c.requires.free in
    let rises = subst (λ (o : Own). Rises 0 o.mine (orders_in c.self.inside.seat.me.0.seen)) (sym t.own_is) i.3 in
    (a.table ∙ c.take_lock.ensures.table ∙ i.0, as_free _ _ _ free (a.view ∙ ap (λ (k : Machine). free_seat k now.seen now.own) key), subst (λ (k : Machine). IsLegal k now.seen) key a.legal, rises_given _ _ _ _ _ _ _ _ t.later rises a.gives)
