use Rattle.std.proofs.Common.{◌∙◌, sym, ap, subst}
use Rattle.arb_config.specs.Machine.{IsMachine}
use Rattle.arb_model.specs.Arbiter.{Arbiter}
use Rattle.arb_model.specs.History.{History}
use Rattle.arb_house.specs.Recording.{StandsAt}
use Rattle.arb_house.proofs.AdmissionLaws.{count_is, entry_is}
use Rattle.arb_house.proofs.StandingLaws.{entry_may_follow, stands_entered}
use Rattle.arb_house.proofs.publisher.enter.Goals as goal

pub enter-requires : goal.enter-requires
enter-requires g c =
    let at = c.requires.stands in
    let step = c.step-reply.ensures in
    let machine = subst IsMachine (step.machine ∙ ap (λ (a : Arbiter). a.machine) at.state) step.arbiter.machine in
    entry_may_follow _ _ _ _ _ _ machine at step.enters

pub returns-clause-stands : goal.returns-clause-stands
returns-clause-stands g c =
    let at = c.requires.stands in
    let step = c.step-reply.ensures in
    let machine = subst IsMachine (step.machine ∙ ap (λ (a : Arbiter). a.machine) at.state) step.arbiter.machine in
    subst (λ (h : History). StandsAt g.K.Set.machine h c.step-reply.new.self) (sym c.enter.ensures.entered)
    (stands_entered _ _ _ _ _ _ _ at (entry_may_follow _ _ _ _ _ _ machine at step.enters) step.step step.machine step.posted)

pub returns-clause-entry : goal.returns-clause-entry
returns-clause-entry g c =
    let at = c.requires.stands in
    let step = c.step-reply.ensures in
    let machine = subst IsMachine (step.machine ∙ ap (λ (a : Arbiter). a.machine) at.state) step.arbiter.machine in
    entry_is g.K.Set.machine c.args.writer.now.seen c.args.core.now c.step-reply.new.self c.args.client c.count_of-number.result c.args.order.now c.step-reply.result machine at step.enters.client c.count_of-number.ensures step.step

pub returns-clause-seen : goal.returns-clause-seen
returns-clause-seen g c =
    let at = c.requires.stands in
    let step = c.step-reply.ensures in
    let machine = subst IsMachine (step.machine ∙ ap (λ (a : Arbiter). a.machine) at.state) step.arbiter.machine in
    rw (count_is _ _ _ _ _ machine at step.enters.client c.count_of-number.ensures) c.enter.ensures.entered
