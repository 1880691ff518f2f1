use Rattle.std.proofs.Common.{◌≡◌, ◌∙◌, subst, sym}
use Rattle.arb_config.specs.Machine.{Machine}
use Rattle.arb_play.specs.Outcomes.{IsOutcome}
use Rattle.arb_play.proofs.performing.perform_named.Goals as goal

pub returns-in-Ok-conclude-clause-outcome : goal.returns-in-Ok-conclude-clause-outcome
returns-in-Ok-conclude-clause-outcome g c =
    let machine : g.K.Set.machine ≡ c.args.topology.now = sym c.requires.name.1 ∙ c.requires.topology in
    subst (λ (m : Machine). IsOutcome m c.args.script.now c.in-Ok-conclude.outcome) machine c.in-Ok-conclude.ensures.outcome
