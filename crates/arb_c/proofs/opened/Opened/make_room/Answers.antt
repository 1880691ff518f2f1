use Rattle.std.proofs.Common.{◌≡◌, ◌∙◌, arith, ap, sym}
use Rattle.std.specs.Prelude.{sum}
use Rattle.arb_model.specs.Arbiter.{Arbiter}
use Rattle.arb_c.specs.Holding.{orders_of}
use Rattle.arb_c.proofs.RenewalLaws.{none_counted}
use Rattle.arb_c.proofs.opened.Opened.make_room.Goals as goal

none_left : (c : goal.After-renew) → sum c.renew.new.self.standing.counts ≡ 0
none_left c = ap (λ (a : Arbiter). sum a.standing.counts) c.renew.ensures.renewed ∙ none_counted c.self.inside.core

pub invariant_of-self : goal.invariant_of-self
invariant_of-self c = (
  c.self.invariant.0 ∙ sym (ap (λ (a : Arbiter). a.machine) c.renew.ensures.renewed),
  omega (arith, none_left c, c.add.ensures.total, c.self.invariant.1),
)

pub returns-then-is_full-clause-same : goal.returns-then-is_full-clause-same
returns-then-is_full-clause-same c = omega (arith, none_left c, c.add.ensures.total, ap orders_of c.self.view_is)
