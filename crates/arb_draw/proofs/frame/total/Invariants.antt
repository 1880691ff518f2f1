use Rattle.std.proofs.Common.{◌≡◌, ◌*◌, ◌≤◌, sum, take}
use Rattle.arb_draw.proofs.frame.total.Given as goal

-- the entries of the levels before this one are counted
abbrev pub invariant-loop-level : goal.invariant-loop-level
invariant-loop-level l = record {
  total : l.total ≡ sum (take l.level l.request);
  small : l.total ≤ 128 * l.level;
}
