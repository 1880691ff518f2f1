use Rattle.std.proofs.Common.{◌≡◌, ◌∙◌, None, ap, sym, subst}
use Rattle.arb_model.specs.Arbiter.{Arbiter, IsArbiter}
use Rattle.arb_model.specs.Posting.{next_stale_of}
use Rattle.arb_model.proofs.RenewalLaws.{IsArbiter-renewed, renewed_settled}
use Rattle.arb_core.proofs.arbiter.Core.renew.Goals as goal

pub invariant_of-self : goal.invariant_of-self
invariant_of-self c = subst (λ (a : Arbiter). IsArbiter a) (sym c.renew.ensures) (IsArbiter-renewed c.self.inside.state c.self.invariant)

pub returns-clause-arbiter : goal.returns-clause-arbiter
returns-clause-arbiter c = invariant_of-self c

pub returns-clause-settled : goal.returns-clause-settled
returns-clause-settled c =
    let a = c.self.inside.state in
    subst (λ (x : Arbiter). next_stale_of x.standing x.posted ≡ None) (sym c.renew.ensures)
    (renewed_settled a c.self.invariant (ap (λ (x : Arbiter). next_stale_of x.standing x.posted) c.self.view_is ∙ c.requires.settled))
