use Rattle.std.proofs.Common.{◌≡◌, ◌+◌, ◌∙◌, List, ℕ, arith, ap}
use Rattle.std.specs.Prelude.{sum}
use Rattle.arb_c.proofs.RenewalLaws.{sums_add}
use Rattle.arb_c.proofs.earlier.Earlier.add.Goals as goal

added : (c : goal.After-add_each) → sum c.add_each.new.earlier ≡ sum c.self.inside.counts + sum c.args.core.now.standing.counts
added c =
    let long = c.orders.ensures.arbiter.consistent.standing.counts in
    ap sum (rw (c.counts.ensures) at c.add_each.ensures) ∙ sums_add c.self.inside.counts c.args.core.now.standing.counts (omega (arith, c.self.told, long))

pub invariant_of-self : goal.invariant_of-self
invariant_of-self c = omega (arith, added c, c.self.invariant, c.orders.ensures.total)

pub returns-clause-total : goal.returns-clause-total
returns-clause-total c = added c ∙ ap (λ (l : List ℕ). sum l + sum c.args.core.now.standing.counts) c.self.view_is
