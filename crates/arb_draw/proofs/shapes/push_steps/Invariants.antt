use Rattle.std.proofs.Common.{◌≡◌, ◌++◌}
use Rattle.std.specs.List.{flat_map, range_with_len}
use Rattle.arb_draw.specs.Shapes.{step_at}
use Rattle.arb_draw.proofs.shapes.push_steps.Given as goal

-- the steps before this index are there
abbrev pub invariant-loop-index : goal.invariant-loop-index
invariant-loop-index l = l.shapes.items ≡ l.initial.shapes.items ++ flat_map (step_at l.xs l.values l.base l.peak) (range_with_len 0 l.index)
