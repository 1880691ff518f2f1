use Rattle.std.proofs.Common.{◌≡◌, ◌++◌}
use Rattle.arb_script.proofs.TableLaws.{lines_before}
use Rattle.arb_script.specs.Output.{Moves}
use Rattle.arb_script.proofs.runner.write_table.Given as goal

-- the lines of the positions before this one are written or gathered
abbrev pub invariant-loop-position : goal.invariant-loop-position
invariant-loop-position g l = record {
  moved : Moves (g.W.Sink.contents l.initial.writer) (g.W.Sink.contents l.writer) (l.initial.output ++ lines_before l.topology l.core.standing.seats l.position) l.output;
  kept : g.W.Sink.failures l.writer ≡ g.W.Sink.failures l.initial.writer;
}
