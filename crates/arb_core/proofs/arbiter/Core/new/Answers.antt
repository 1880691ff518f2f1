use Rattle.std.proofs.Common.{◌≡◌, None, sym, subst}
use Rattle.arb_model.specs.Arbiter.{Arbiter, IsArbiter}
use Rattle.arb_model.specs.Posting.{next_stale_of}
use Rattle.arb_model.proofs.OpeningLaws.{opening_settled}
use Rattle.arb_core.proofs.CoreLaws.{IsArbiter-opening}
use Rattle.arb_core.proofs.arbiter.Core.new.Goals as goal

pub invariant_of-result : goal.invariant_of-result
invariant_of-result c =
    subst (λ (a : Arbiter). IsArbiter a) (sym c.new.ensures.opening) (IsArbiter-opening c.args.topology.now c.new.ensures.machine)

pub returns-clause-settled : goal.returns-clause-settled
returns-clause-settled c =
    subst (λ (a : Arbiter). next_stale_of a.standing a.posted ≡ None) (sym c.new.ensures.opening) (opening_settled c.args.topology.now)

pub returns-clause-arbiter : goal.returns-clause-arbiter
returns-clause-arbiter c = invariant_of-result c
