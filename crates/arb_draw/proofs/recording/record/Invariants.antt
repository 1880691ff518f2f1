use Rattle.std.proofs.Common.{◌≡◌, ◌+◌, ◌-◌, take}
use Rattle.std.specs.Prelude.{None}
use Rattle.arb_model.specs.Posting.{next_stale_of}
use Rattle.arb_script.specs.Report.{standing_after}
use Rattle.arb_draw.specs.Frames.{frames_of}
use Rattle.arb_draw.proofs.recording.record.Given as goal

-- the orders before this one are entered, and what is drawn of them is kept
abbrev pub invariant-loop-index : goal.invariant-loop-index
invariant-loop-index l = record {
  frames : l.frames.items ≡ frames_of l.topology l.script (l.start + 1) (l.index - l.start);
  standing : l.core.standing ≡ standing_after l.topology (take l.index l.script);
  machine : l.core.machine ≡ l.topology;
  settled : next_stale_of l.core.standing l.core.posted ≡ None;
}
