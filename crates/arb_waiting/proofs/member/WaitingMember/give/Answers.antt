use Rattle.std.proofs.Common.{ap, subst}
use Rattle.arb_common.specs.Sides.{Side, Stance}
use Rattle.arb_waiting.specs.Trying.{BeginsAtLast}
use Rattle.arb_waiting.proofs.TryingLaws.{answered_at_last, full_at_last}
use Rattle.arb_waiting.proofs.member.WaitingMember.give.Goals as goal

pub returns-clause-answered : goal.returns-clause-answered
returns-clause-answered g c =
    let begun = c.begin_at_last.new.member.side in
    let at : BeginsAtLast c.args.self.now begun = subst (λ (s : Side). BeginsAtLast s begun) c.self.view_is c.begin_at_last.ensures.begins in
    let p = c.post_all.ensures in
    answered_at_last _ _ _ _ _ _ _ _ at (record { side = p.side; seen = p.seen; settled = p.settled; steps = p.steps; end = ap (λ (s : Stance). s.side) c.end.ensures.one_store }) c.step-reply.ensures.entered

pub returns-clause-full : goal.returns-clause-full
returns-clause-full g c =
    let begun = c.begin_at_last.new.member.side in
    let at : BeginsAtLast c.args.self.now begun = subst (λ (s : Side). BeginsAtLast s begun) c.self.view_is c.begin_at_last.ensures.begins in
    let p = c.post_all.ensures in
    full_at_last _ _ _ _ _ _ at (record { side = p.side; seen = p.seen; settled = p.settled; steps = p.steps; end = ap (λ (s : Stance). s.side) c.end.ensures.one_store }) c.step-reply.ensures.full
