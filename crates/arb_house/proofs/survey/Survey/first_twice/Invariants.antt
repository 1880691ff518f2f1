-- No client so far left two pasts.
use Rattle.std.proofs.Common.{ℕ, ◌<◌}
use Rattle.arb_house.specs.Pasts.{IsTwice}
use Rattle.arb_house.proofs.survey.Survey.first_twice.Given as goal

abbrev pub invariant-loop-number : goal.invariant-loop-number
invariant-loop-number l = (k : ℕ) → k < l.number → IsTwice l.self.pasts.now k → ⊥
