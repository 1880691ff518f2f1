use Rattle.std.proofs.Common.{◌≡◌, ℕ, ◌<◌, false}
use Rattle.arb_config.specs.Conditions.{is_repeated_at}
use Rattle.arb_config.proofs.passes.first_repeated.Given as goal

abbrev pub invariant-loop-index : goal.invariant-loop-index
invariant-loop-index l = (k : ℕ) → k < l.index → is_repeated_at l.cores k ≡ false
