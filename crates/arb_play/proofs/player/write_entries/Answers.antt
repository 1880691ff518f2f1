use Rattle.std.proofs.Common.{◌≤◌, ap, arith, length}
use Rattle.std.proofs.Math.ListN.{drop_of_length-le}
use Rattle.arb_play.specs.JournalReport.{entry_lines}
use Rattle.arb_play.proofs.JournalLaws.{entries_next}
use Rattle.arb_play.proofs.LinesLaws.{LinesSent-all, LinesSent-failed, LinesSent-more, LinesSent-none}
use Rattle.arb_play.proofs.player.write_entries.Goals as goal

pub loop-index-init : goal.loop-index-init
loop-index-init g c = LinesSent-none _ _ _

pub returns-in_err-put : goal.returns-in_err-put
returns-in_err-put g c =
    let next = entries_next c.args.journal.now _ _ _ c.loop-index-test.true c.index-journal-index.is c.entry_line-line.ensures in
    let failed = c.in_err-put.ensures {u = tt} in
    LinesSent-failed c.loop-index.invariant _ _ next c.from_residual.result c.from_residual.ensures.0 failed.prefix failed.err

pub loop-index-preserved : goal.loop-index-preserved
loop-index-preserved g c =
    let next = entries_next c.args.journal.now _ _ _ c.loop-index-test.true c.index-journal-index.is c.entry_line-line.ensures in
    let sent = c.in_ok-put.ensures {u = tt} in
    LinesSent-more c.loop-index.invariant _ _ next sent.moved sent.ok

pub returns : goal.returns
returns g c =
    let ended : length c.args.journal.now ≤ c.loop-index.index = omega arith in
    LinesSent-all c.loop-index.invariant _ (ap entry_lines (drop_of_length-le c.args.journal.now ended))
