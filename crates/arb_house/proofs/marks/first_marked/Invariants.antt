-- No client so far is marked.
use Rattle.std.proofs.Common.{ℕ, ◌<◌}
use Rattle.arb_house.specs.Walks.{IsMarked}
use Rattle.arb_house.proofs.marks.first_marked.Given as goal

abbrev pub invariant-loop-number : goal.invariant-loop-number
invariant-loop-number l = (k : ℕ) → k < l.number → IsMarked l.marks k → ⊥
