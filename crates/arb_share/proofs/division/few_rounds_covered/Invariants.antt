use Rattle.arb_share.proofs.Rounds.{Tried}
use Rattle.arb_share.proofs.division.few_rounds_covered.Given as goal

abbrev pub invariant-loop-before : goal.invariant-loop-before
invariant-loop-before l = Tried l.demands l.supply l.before l.covered
