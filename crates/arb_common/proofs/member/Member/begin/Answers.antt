use Rattle.std.proofs.Common.{◌∙◌, ap, subst}
use Rattle.arb_config.specs.Machine.{Machine}
use Rattle.arb_model.specs.History.{IsLegal}
use Rattle.arb_common.specs.declared.member.Common.{Common}
use Rattle.arb_common.specs.declared.table.Own.{Own}
use Rattle.arb_common.specs.Views.{HasLock}
use Rattle.arb_common.proofs.StandLaws.{rises_later}
use Rattle.arb_common.proofs.member.Member.begin.Goals as goal

pub invariant_of-result-2 : goal.invariant_of-result-2
invariant_of-result-2 c =
    let i = c.self.invariant in
    let t = c.if-not-take_lock.ensures.view in
    let me = c.take_lock.new.seat.me in
    let key = ap (λ (x : Common). x.table.shared.key) c.deref.ensures in
    (c.take_lock.ensures.table ∙ i.0, subst (λ (k : Machine). HasLock k me.0.seen me) key t.lock, subst (λ (k : Machine). IsLegal k me.0.seen) key t.legal, rises_later _ _ _ _ i.3 t.later (ap (λ (o : Own). o.mine) t.own_is))
