use Rattle.std.proofs.Common.{◌≡◌, ◌+◌, ◌∙◌, ap, take}
use Rattle.arb_script.specs.Report.{standing_after}
use Rattle.arb_draw.specs.Frames.{frame_of}
use Rattle.arb_draw.proofs.RecordLaws.{frames_next}
use Rattle.arb_draw.proofs.recording.record.Goals as goal

pub loop-index-preserved : goal.loop-index-preserved
loop-index-preserved c =
    let m = c.args.topology.now in
    let script = c.args.script.now in
    let index = c.loop-index.index in
    let i = c.loop-index.invariant in
    let standing : c.enter.new.core.standing ≡ standing_after m (take (index + 1) script) = c.enter.ensures.standing ∙ ap (λ machine. standing_after machine (take (index + 1) script)) i.machine in
    record {
      frames = frames_next m script c.args.start index c.loop-index.frames.items c.push.new.self.items c.new.result c.loop-index.auto.index i.frames c.in_ok-push.ensures.items (c.new.ensures ∙ ap (frame_of m) standing);
      standing = standing;
      machine = c.enter.ensures.machine ∙ i.machine;
      settled = c.enter.ensures.settled;
    }
