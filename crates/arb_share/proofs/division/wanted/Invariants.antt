use Rattle.std.proofs.Common.{◌≡◌, ◌*◌, ◌≤◌, sum, take}
use Rattle.arb_share.proofs.division.wanted.Given as goal

abbrev pub invariant-loop-demand : goal.invariant-loop-demand
invariant-loop-demand l = (l.all ≡ sum (take l.demand-index l.demands)) × (l.all ≤ 255 * l.demand-index)
