use Rattle.std.proofs.Common.{drop}
use Rattle.arb_play.specs.JournalReport.{entry_lines}
use Rattle.arb_play.proofs.LinesLaws.{LinesSent}
use Rattle.arb_play.proofs.player.write_entries.Given as goal

-- the lines of the entries before this one are sent
abbrev pub invariant-loop-index : goal.invariant-loop-index
invariant-loop-index g l = LinesSent g.W.Sink.contents g.W.Sink.failures l.initial.writer l.writer l.initial.output l.output (entry_lines l.journal) (entry_lines (drop l.index l.journal))
