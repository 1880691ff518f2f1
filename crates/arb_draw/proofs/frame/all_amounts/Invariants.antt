use Rattle.std.proofs.Common.{◌≡◌, map}
use Rattle.std.specs.List.{range_with_len}
use Rattle.arrayvec.specs.ArrayVec.{array_vec_len}
use Rattle.arb_draw.specs.Frames.{amounts_of}
use Rattle.arb_draw.proofs.frame.all_amounts.Given as goal

-- the amounts of the applications before this one are there
abbrev pub invariant-loop-app : goal.invariant-loop-app
invariant-loop-app l = record {
  amounts : l.all.items ≡ map (amounts_of l.core.machine l.core.standing) (range_with_len 0 l.app);
  count : array_vec_len l.all ≡ l.app;
}
