use Rattle.std.proofs.Common.{◌≡◌}
use Rattle.std.specs.Io.KnownBytes.{Appends}
use Rattle.arb_script.proofs.TableLaws.{lines_before}
use Rattle.arb_script.proofs.table.print_table.Given as goal

-- the lines of the positions before this one are written
abbrev pub invariant-loop-position : goal.invariant-loop-position
invariant-loop-position g l = record {
  appended : Appends (g.W.Sink.contents l.initial.writer) (g.W.Sink.contents l.writer) (lines_before l.topology l.core.standing.seats l.position);
  kept : g.W.Sink.failures l.writer ≡ g.W.Sink.failures l.initial.writer;
}
