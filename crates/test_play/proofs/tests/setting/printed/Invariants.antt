use Rattle.std.proofs.Common.{◌≡◌}
use Rattle.test_play.proofs.tests.setting.printed.Given as goal

-- the arbiter is of the machine
abbrev pub invariant-loop-place : goal.invariant-loop-place
invariant-loop-place g l = l.core.machine ≡ l.topology
