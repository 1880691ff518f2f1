use Rattle.std.proofs.Common.{◌∙◌, ap}
use Rattle.arb_common.specs.declared.member.Common.{Common}
use Rattle.arb_common.proofs.StandLaws.{tried}
use Rattle.arb_common.proofs.member_or_turn.MemberOrTurn.begin.Goals as goal

pub invariant_of-self : goal.invariant_of-self
invariant_of-self c =
    let i = c.self.invariant in
    let t = c.take_lock-self-inside in
    let s = tried _ _ t.result c.self.inside.seat.me t.new.seat.me (ap (λ (x : Common). x.table.shared.key) c.deref.ensures) i.2 i.3 t.ensures.view in
    (t.ensures.table ∙ i.0, s.0, s.1, s.2)
