use Rattle.std.proofs.Common.{◌∙◌, ap, subst, sym}
use Rattle.arb_config.specs.Machine.{Machine}
use Rattle.arb_model.specs.History.{IsSettled}
use Rattle.arb_common.specs.Sides.{Side, Stance}
use Rattle.arb_common.proofs.StandLaws.{settled_is}
use Rattle.arb_waiting.proofs.giving.post_all.Goals as goal

pub returns-clause-seen : goal.returns-clause-seen
returns-clause-seen c =
    let i = c.loop-word.invariant in
    let none = c.in_default.ensures.settled in
    let last = c.loop-word.member.side.seen in
    let quiet : IsSettled c.args.member.now.side.machine last = subst (λ (m : Machine). IsSettled m last) (ap (λ (s : Side). s.machine) i.side) none.1 in
    ap (λ (s : Stance). s.side.seen) none.0 ∙ sym (settled_is _ _ quiet) ∙ i.settles
