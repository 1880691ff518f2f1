use Rattle.std.proofs.Common.{◌≡◌, ◌≤◌}
use Rattle.arrayvec.specs.ArrayVec.{array_vec_len}
use Rattle.arb_draw.specs.Frames.{apps_below}
use Rattle.arb_draw.proofs.frame.apps.Given as goal

-- the applications before this one are there
abbrev pub invariant-loop-app : goal.invariant-loop-app
invariant-loop-app l = record {
  apps : l.apps.items ≡ apps_below l.core.standing l.app;
  count : array_vec_len l.apps ≤ l.app;
}
