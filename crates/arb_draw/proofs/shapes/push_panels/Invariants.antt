use Rattle.std.proofs.Common.{◌≡◌, ◌++◌, take}
use Rattle.arb_draw.specs.Shapes.{all_panels}
use Rattle.arb_draw.proofs.shapes.push_panels.Given as goal

-- the panels of the applications before this one are there
abbrev pub invariant-loop-index : goal.invariant-loop-index
invariant-loop-index l = l.shapes.items ≡ l.initial.shapes.items ++ all_panels l.layout l.xs l.frames (take l.index l.apps)
