use Rattle.std.proofs.Common.{ap, ◌∙◌, subst}
use Rattle.arb_config.specs.Machine.{IsMachine}
use Rattle.arb_model.specs.Arbiter.{Arbiter, opening_arbiter}
use Rattle.arb_house.proofs.StandingLaws.{settled_new, stands_new}
use Rattle.arb_house.proofs.publisher.Publisher.new.Goals as goal

pub invariant_of-result : goal.invariant_of-result
invariant_of-result g c = (
  stands_new _ _ _ c.requires.writer (c.new.ensures.opening ∙ ap opening_arbiter c.requires.topology),
  settled_new _ _ c.requires.writer,
  subst IsMachine (ap (λ (a : Arbiter). a.machine) c.new.ensures.opening ∙ c.requires.topology) c.new.ensures.arbiter.machine,
)
