use Rattle.std.proofs.Common.{◌≡◌, ◌++◌, map, take}
use Rattle.arb_draw.specs.Shapes.{bar_shape}
use Rattle.arb_draw.proofs.shapes.push_bars.Given as goal

-- the bars before this one are there
abbrev pub invariant-loop-bar : goal.invariant-loop-bar
invariant-loop-bar l = l.shapes.items ≡ l.initial.shapes.items ++ map (bar_shape l.grid.layout l.grid.first l.grid.xs.now) (take l.bar-index l.bars)
