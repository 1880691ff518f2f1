use Rattle.std.proofs.Common.{◌≤◌}
use Rattle.test_core.proofs.tests.posting.named.Given as goal

abbrev pub invariant-loop-w : goal.invariant-loop-w
invariant-loop-w l = l.total ≤ l.w
