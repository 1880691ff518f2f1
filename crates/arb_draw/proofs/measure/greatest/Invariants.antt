use Rattle.std.proofs.Common.{◌≡◌, take}
use Rattle.arb_draw.specs.Measures.{greatest}
use Rattle.arb_draw.proofs.measure.greatest.Given as goal

-- it is the greatest of the values before this one
abbrev pub invariant-loop-value : goal.invariant-loop-value
invariant-loop-value l = l.most ≡ greatest (take l.value-index l.values)
