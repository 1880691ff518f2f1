use Rattle.std.proofs.Common.{◌≡◌, ◌+◌, ◌<◌, ◌∙◌, arith, ap, sym}
use Rattle.std.specs.Prelude.{sum}
use Rattle.arb_model.specs.Step.{Outcome, step_of}
use Rattle.arb_core.proofs.CoreLaws.{one_more}
use Rattle.arb_c.proofs.opened.Opened.enter.Goals as goal

pub invariant_of-self : goal.invariant_of-self
invariant_of-self c =
    let i = c.self.inside in
    let room : sum i.earlier + sum i.core.standing.counts < i.limit = rw (← c.self.view_is) at c.requires.limit in
    let same : sum c.step.new.self.standing.counts ≡ sum (step_of i.core.machine i.core.standing c.args.client c.args.order.now).standing.counts = ap (λ (o : Outcome). sum o.standing.counts) c.step.ensures.step in
    (c.self.invariant.0 ∙ sym c.step.ensures.machine, omega (arith, room, same, one_more i.core.machine i.core.standing c.args.client c.args.order.now))
