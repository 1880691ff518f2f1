use Rattle.std.proofs.Common.{◌-◌, ◌++◌, None, replicate, take}
use Rattle.arb_share.specs.Limits.{applications}
use Rattle.arb_share.specs.Demands.{AreDemands}
use Rattle.arb_share.proofs.due_numbers.due.Given as goal

abbrev pub invariant-loop-app : goal.invariant-loop-app
invariant-loop-app l = AreDemands l.demands (take l.app l.requests ++ replicate (applications - l.app) None)
