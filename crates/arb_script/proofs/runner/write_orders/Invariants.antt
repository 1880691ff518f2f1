use Rattle.std.proofs.Common.{◌≡◌, ◌++◌, take}
use Rattle.std.specs.Prelude.{None}
use Rattle.arb_model.specs.Posting.{next_stale_of}
use Rattle.arb_script.specs.Output.{Moves}
use Rattle.arb_script.specs.Report.{standing_after}
use Rattle.arb_script.proofs.ReportLaws.{lines_before}
use Rattle.arb_script.proofs.runner.write_orders.Given as goal

-- the orders before this one are entered, and their lines are written or gathered
abbrev pub invariant-loop-index : goal.invariant-loop-index
invariant-loop-index g l = record {
  moved : Moves (g.W.Sink.contents l.initial.writer) (g.W.Sink.contents l.writer) (l.initial.output ++ lines_before l.initial.core.machine l.script l.index) l.output;
  standing : l.core.standing ≡ standing_after l.initial.core.machine (take l.index l.script);
  machine : l.core.machine ≡ l.initial.core.machine;
  settled : next_stale_of l.core.standing l.core.posted ≡ None;
  kept : g.W.Sink.failures l.writer ≡ g.W.Sink.failures l.initial.writer;
}
