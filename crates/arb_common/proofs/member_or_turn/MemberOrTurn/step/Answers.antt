use Rattle.std.proofs.Common.{◌∙◌, ap, subst}
use Rattle.arb_config.specs.Machine.{Machine}
use Rattle.arb_model.specs.History.{IsLegal}
use Rattle.arb_common.specs.declared.member.Common.{Common}
use Rattle.arb_common.specs.Sides.{Stance}
use Rattle.arb_common.specs.Views.{HasLock}
use Rattle.arb_common.proofs.StandLaws.{as_held, rises_entering}
use Rattle.arb_common.proofs.member_or_turn.MemberOrTurn.step.Goals as goal

pub invariant_of-self : goal.invariant_of-self
invariant_of-self c =
    let i = c.self.invariant in
    let e = c.enter.ensures in
    let me = c.enter.new.seat.me in
    let key = ap (λ (x : Common). x.table.shared.key) c.deref.ensures in
    let turn = ap (λ (s : Stance). s.in_turn) c.self.view_is ∙ c.requires.turn in
    (e.table ∙ i.0, as_held _ _ _ turn (subst (λ (k : Machine). HasLock k me.0.seen me) key e.lock), subst (λ (k : Machine). IsLegal k me.0.seen) key e.legal, rises_entering _ c.self.inside.seat.me me _ _ _ e.enters e.full i.3)
