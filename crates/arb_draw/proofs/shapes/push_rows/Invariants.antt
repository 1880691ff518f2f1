use Rattle.std.proofs.Common.{◌≡◌, ◌++◌}
use Rattle.std.specs.List.{flat_map, range_with_len}
use Rattle.arb_draw.specs.Shapes.{row_shapes}
use Rattle.arb_draw.proofs.shapes.push_rows.Given as goal

-- the rows of the positions before this one are there
abbrev pub invariant-loop-position : goal.invariant-loop-position
invariant-loop-position l = l.shapes.items ≡ l.initial.shapes.items ++ flat_map (row_shapes l.topology l.layout) (range_with_len 0 l.position)
