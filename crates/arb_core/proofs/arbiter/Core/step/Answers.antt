use Rattle.std.proofs.Common.{ℕ, ◌<◌, set, sym, subst, refl, ap, ◌∙◌}
use Rattle.std.specs.Prelude.{sum}
use Rattle.arb_model.specs.Arbiter.{Arbiter, IsArbiter}
use Rattle.arb_model.specs.Step.{Outcome, step_of}
use Rattle.arb_model.specs.declared.orders.Order.{Order}
use Rattle.arb_core.proofs.CoreLaws.{IsArbiter-step, arbiter_owners}
use Rattle.arb_model.proofs.StepLaws.{keeps_unasked}
use Rattle.arb_core.proofs.arbiter.Core.step.Goals as goal

pub invariant_of-self : goal.invariant_of-self
invariant_of-self c =
    let a = c.self.inside.state in
    let after = c.step.new.self.standing in
    subst (λ (x : Arbiter). IsArbiter x) (sym c.step.ensures.rest) (IsArbiter-step a.machine a.standing after a.posted (set a.posted 0 (sum after.counts)) c.args.client c.args.order.now c.step.result c.args.self.now c.self.invariant c.step.ensures.step refl c.self.view_is c.in_range.ensures c.requires.room c.requires.settled)

pub returns-clause-arbiter : goal.returns-clause-arbiter
returns-clause-arbiter c = invariant_of-self c

pub returns-clause-owners : goal.returns-clause-owners
returns-clause-owners c =
    let a = c.self.inside.state in
    arbiter_owners a.machine a.standing c.step.new.self.standing a.posted c.args.client c.args.order.now c.step.result c.args.self.now c.self.invariant c.step.ensures.step c.self.view_is

pub returns-clause-unasked : goal.returns-clause-unasked
returns-clause-unasked c = keeps_unasked c.args.self.now.machine c.args.self.now.standing c.args.client c.args.order.now _ (returns-clause-owners c)

pub returns-clause-enters : goal.returns-clause-enters
returns-clause-enters c =
    let client : ℕ = c.args.client in
    let order : Order = c.args.order.now in
    record {
      client = subst (λ (n : ℕ). n < 513) c.index-number.ensures.value c.index-number.ensures.within;
      fits = c.in_range.ensures;
      settled = c.requires.settled;
      room = c.requires.room;
      number = refl;
      reply = ap (λ (o : Outcome). o.reply) c.step.ensures.step ∙ ap (λ (a : Arbiter). (step_of a.machine a.standing client order).reply) c.self.view_is;
    }
