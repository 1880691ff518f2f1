use Rattle.std.proofs.Common.{◌-◌}
use Rattle.arb_share.proofs.Rounds.{Between}
use Rattle.arb_share.proofs.division.rounds_covered.Given as goal

abbrev pub invariant-loop-beyond : goal.invariant-loop-beyond
invariant-loop-beyond l = Between l.demands l.supply l.covered l.beyond

abbrev pub decreases-loop-beyond : goal.decreases-loop-beyond
decreases-loop-beyond l = l.beyond - l.covered
