use Rattle.std.proofs.Common.{◌≡◌, ◌+◌, ◌-◌, ◌∙◌, ap, arith, length, take}
use Rattle.std.proofs.lemmas.List.FromFn.{length-map-range_with_len}
use Rattle.arb_script.specs.Report.{standing_after}
use Rattle.arb_draw.specs.Frames.{frame_of}
use Rattle.arb_draw.proofs.recording.recorded.Goals as goal

pub returns-clause-count : goal.returns-clause-count
returns-clause-count c =
    let m = c.args.topology.now in
    let script = c.args.script.now in
    let before = c.args.orders.first - 1 in
    let long : length c.in_ok-frames.frames.items ≡ before + c.args.orders.count - before =
    ap length (c.in_ok-frames.ensures {u = tt}).frames ∙ length-map-range_with_len (λ order. frame_of m (standing_after m (take order script))) (before + 1) (before + c.args.orders.count - before) in
    omega arith
