use Rattle.std.proofs.Common.{◌≡◌, ◌++◌, take}
use Rattle.std.specs.List.{flat_map}
use Rattle.arb_draw.specs.Shapes.{name_shapes}
use Rattle.arb_draw.proofs.shapes.push_names.Given as goal

-- the names of the bars before this one are there
abbrev pub invariant-loop-bar : goal.invariant-loop-bar
invariant-loop-bar l = l.shapes.items ≡ l.initial.shapes.items ++ flat_map (name_shapes l.grid.layout l.grid.first l.grid.xs.now) (take l.bar-index l.bars)
