use Rattle.std.proofs.Common.{◌≡◌, take}
use Rattle.arb_draw.specs.Measures.{values_of}
use Rattle.arb_draw.proofs.measure.values.Given as goal

-- the values of the frames before this one are there
abbrev pub invariant-loop-frame : goal.invariant-loop-frame
invariant-loop-frame l = l.values.items ≡ values_of (take l.frame-index l.frames) l.measure l.app
