use Rattle.std.proofs.Common.{◌≡◌, ◌++◌, map, take}
use Rattle.arb_draw.specs.Shapes.{tick_shape}
use Rattle.arb_draw.proofs.shapes.push_ticks.Given as goal

-- the labels before this one are there
abbrev pub invariant-loop-tick : goal.invariant-loop-tick
invariant-loop-tick l = l.shapes.items ≡ l.initial.shapes.items ++ map (tick_shape l.layout) (take l.tick-index l.ticks)
