use Rattle.std.proofs.Common.{drop, slice_index}
use Rattle.arb_play.specs.Outcomes.{full_orders}
use Rattle.arb_play.specs.Scripts.{full_in}
use Rattle.arb_play.specs.JournalReport.{full_lines}
use Rattle.arb_play.proofs.LinesLaws.{LinesSent}
use Rattle.arb_play.proofs.player.write_full.Given as goal

-- the lines of the full orders before this one are sent
abbrev pub invariant-loop-index : goal.invariant-loop-index
invariant-loop-index g l = LinesSent g.W.Sink.contents g.W.Sink.failures l.initial.writer l.writer l.initial.output l.output
    (full_lines (full_orders l.full_from l.script)) (full_lines (full_in (slice_index l.full_from) l.index (drop l.index l.script)))
