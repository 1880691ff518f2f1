use Rattle.std.proofs.Common.{◌≡◌, ◌+◌, ◌*◌, ◌≤◌, length, map, take}
use Rattle.std.specs.Prelude.{decimal}
use Rattle.std.specs.List.{join_with_byte}
use Rattle.arb_share.specs.Text.{space}
use Rattle.arb_share.proofs.due_input.due_line.Given as goal

-- the numbers before this application are written, each in at most three digits
abbrev pub invariant-loop-app : goal.invariant-loop-app
invariant-loop-app l = record {
  text : l.line.bytes ≡ join_with_byte space (map decimal (take l.app l.due));
  short : length l.line.bytes + 1 ≤ 4 * l.app;
}
