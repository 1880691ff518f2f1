use Rattle.std.proofs.Common.{◌≡◌, ◌++◌, take}
use Rattle.arb_draw.specs.Shapes.{legend}
use Rattle.arb_draw.proofs.shapes.push_legend.Given as goal

-- the entries of the applications before this one are there
abbrev pub invariant-loop-index : goal.invariant-loop-index
invariant-loop-index l = l.shapes.items ≡ l.initial.shapes.items ++ legend (take l.index l.apps)
