use Rattle.std.proofs.Common.{◌≤◌, ap, arith, length, slice_index}
use Rattle.std.proofs.Math.ListN.{drop_of_length-le}
use Rattle.arb_play.specs.Scripts.{full_in}
use Rattle.arb_play.specs.JournalReport.{full_lines}
use Rattle.arb_play.proofs.FullLaws.{full_next}
use Rattle.arb_play.proofs.LinesLaws.{LinesSent-all, LinesSent-failed, LinesSent-more, LinesSent-none}
use Rattle.arb_play.proofs.player.write_full.Goals as goal

pub loop-index-init : goal.loop-index-init
loop-index-init g c = LinesSent-none _ _ _

pub returns-in_err-write_if_full : goal.returns-in_err-write_if_full
returns-in_err-write_if_full g c =
    let next = full_next c.args.full_from.now c.args.script.now c.loop-index.index (omega (arith, c.len-index-end.ensures)) in
    let failed = c.in_err-write_if_full.ensures {u = tt} in
    LinesSent-failed c.loop-index.invariant _ _ next c.from_residual.result c.from_residual.ensures.0 failed.prefix failed.err

pub loop-index-preserved : goal.loop-index-preserved
loop-index-preserved g c =
    let next = full_next c.args.full_from.now c.args.script.now c.loop-index.index (omega (arith, c.len-index-end.ensures)) in
    let sent = c.in_ok-write_if_full.ensures {u = tt} in
    LinesSent-more c.loop-index.invariant _ _ next sent.moved sent.ok

pub returns : goal.returns
returns g c =
    let ended : length c.args.script.now ≤ c.loop-index.index = omega (arith, c.len-index-end.ensures) in
    LinesSent-all c.loop-index.invariant _ (ap (λ l. full_lines (full_in (slice_index c.args.full_from.now) c.loop-index.index l)) (drop_of_length-le c.args.script.now ended))
