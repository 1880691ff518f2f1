use Rattle.std.proofs.Common.{◌∙◌, ap, subst}
use Rattle.arb_config.specs.Machine.{Machine}
use Rattle.arb_model.specs.History.{IsLegal}
use Rattle.arb_common.specs.declared.member.Common.{Common}
use Rattle.arb_common.specs.declared.table.Own.{Own}
use Rattle.arb_common.specs.Views.{free_seat}
use Rattle.arb_common.proofs.StandLaws.{as_free, rises_later}
use Rattle.arb_common.proofs.member_or_turn.MemberOrTurn.read.Goals as goal

pub invariant_of-self-else-self : goal.invariant_of-self-else-self
invariant_of-self-else-self c =
    let i = c.self.invariant in
    let l = c.load_word.ensures in
    let now = c.load_word.new.seat.me.0 in
    let key = ap (λ (x : Common). x.table.shared.key) c.deref-else-self.ensures in
    (l.table ∙ i.0, as_free _ _ _ c.if-self.false (l.view ∙ ap (λ (k : Machine). free_seat k now.seen now.own) key), subst (λ (k : Machine). IsLegal k now.seen) key l.legal, rises_later _ _ _ _ i.3 l.later (ap (λ (o : Own). o.mine) l.own))
