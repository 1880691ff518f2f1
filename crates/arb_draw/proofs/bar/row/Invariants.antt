use Rattle.std.proofs.Common.{◌≡◌, take}
use Rattle.arb_draw.specs.Bars.{row_of}
use Rattle.arb_draw.proofs.bar.row.Given as goal

-- who has the core after the orders before this one is there
abbrev pub invariant-loop-frame : goal.invariant-loop-frame
invariant-loop-frame l = l.row.items ≡ row_of (take l.frame-index l.frames) l.part l.position
