use Rattle.std.proofs.Common.{◌≡◌, ◌-◌, map, take}
use Rattle.arb_draw.specs.Axis.{clock_at, moment_x, passed}
use Rattle.arb_draw.proofs.axis.time_columns.Given as goal

-- the orders before this one have their places
abbrev pub invariant-loop-frame : goal.invariant-loop-frame
invariant-loop-frame l = l.xs.items ≡ map (λ frame. moment_x (frame.clock - clock_at l.frames 0) (passed l.frames)) (take l.frame-index l.frames)
