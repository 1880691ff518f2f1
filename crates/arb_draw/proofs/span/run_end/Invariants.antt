use Rattle.std.proofs.Common.{◌≡◌, ◌+◌, drop}
use Rattle.arb_draw.specs.Spans.{run_length}
use Rattle.arb_draw.proofs.span.run_end.Given as goal

-- the thread is at each index before this one
abbrev pub invariant-loop-end : goal.invariant-loop-end
invariant-loop-end l = l.index + run_length l.thread (drop l.index l.row) ≡ l.end + run_length l.thread (drop l.end l.row)
