-- (what an edit makes wrong has an answer, so that it is refused at once)
use Rattle.std.proofs.Common.{rules, ap, ◌∙◌, arith}
use Rattle.arb_client.specs.Sides.{Side}
use Rattle.arb_client.proofs.client.Client.tell.Goals as goal

pub returns-clause-same : goal.returns-clause-same
returns-clause-same g c = search rules

pub returns-clause-one_load : goal.returns-clause-one_load
returns-clause-one_load g c = omega (arith, c.tell.ensures.one_load, ap (λ (s : Side). s.steps) c.self.view_is)

pub invariant_of-self : goal.invariant_of-self
invariant_of-self g c = search rules

pub returns-clause-note : goal.returns-clause-note
returns-clause-note g c = c.tell.ensures.note ∙ ap (λ (s : Side). s.seen) c.self.view_is

pub returns-clause-seen : goal.returns-clause-seen
returns-clause-seen g c = c.tell.ensures.same ∙ ap (λ (s : Side). s.seen) c.self.view_is
