use Rattle.std.proofs.Common.{◌≡◌, ◌∙◌, inr, ap, arith, length}
use Rattle.arb_draw.specs.declared.fault.DrawFault.TheVariants.{TooManyBars}
use Rattle.arb_draw.specs.Picture.{run_bars}
use Rattle.arb_draw.proofs.RecordLaws.{bars_are, picture_is}
use Rattle.arb_draw.proofs.drawing.picture.Goals as goal

pub returns-then-len-gt-MAX_BARS-clause-fault : goal.returns-then-len-gt-MAX_BARS-clause-fault
returns-then-len-gt-MAX_BARS-clause-fault c =
    let m = c.args.topology.now in
    let script = c.args.script.now in
    let orders = c.args.orders in
    let bars : c.in_ok-bars.bars.items ≡ run_bars m script orders = bars_are m script orders c.as_slice-frames.result.now c.in_ok-bars.bars.items (c.as_slice-frames.ensures.value ∙ (c.in_ok-recording.ensures {u = tt}).frames) (c.in_ok-bars.ensures {u = tt}) in
    let count : c.len-then-len-gt-MAX_BARS.result ≡ length (run_bars m script orders) = omega (arith, c.len-then-len-gt-MAX_BARS.ensures, c.in_ok-bars.bars.ok.0, ap length bars) in
    inr (ap TooManyBars count, omega (arith, count, c.len-then-len-gt-MAX_BARS.ensures, c.len.ensures, c.if-len-gt-MAX_BARS.true))

pub returns-clause-picture : goal.returns-clause-picture
returns-clause-picture c =
    let m = c.args.topology.now in
    let script = c.args.script.now in
    let orders = c.args.orders in
    let recording = c.in_ok-recording.ensures {u = tt} in
    let frames = c.as_slice-frames.ensures.value ∙ recording.frames in
    picture_is m c.args.scale script orders c.as_slice-frames.result.now c.as_slice.result.now c.as_slice-2.result.now c.as_slice-3.result.now _
    frames
    (c.as_slice.ensures.value ∙ recording.apps)
    (c.as_slice-2.ensures.value ∙ bars_are m script orders c.as_slice-frames.result.now c.in_ok-bars.bars.items frames (c.in_ok-bars.ensures {u = tt}))
    (c.as_slice-3.ensures.value ∙ c.in_ok-shapes.ensures {u = tt})
    (c.in_ok-text_of.ensures {u = tt})

pub returns-clause-few : goal.returns-clause-few
returns-clause-few c =
    let m = c.args.topology.now in
    let script = c.args.script.now in
    let orders = c.args.orders in
    let bars : c.in_ok-bars.bars.items ≡ run_bars m script orders = bars_are m script orders c.as_slice-frames.result.now c.in_ok-bars.bars.items (c.as_slice-frames.ensures.value ∙ (c.in_ok-recording.ensures {u = tt}).frames) (c.in_ok-bars.ensures {u = tt}) in
    omega (arith, c.len.ensures, c.in_ok-bars.bars.ok.0, ap length bars, c.if-len-gt-MAX_BARS.false)
