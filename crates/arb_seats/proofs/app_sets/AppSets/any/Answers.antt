use Rattle.std.proofs.Common.{arith}
use Rattle.std.proofs.lemmas.Nat.Bits.{bit_at_or}
use Rattle.arb_seats.proofs.app_sets.AppSets.any.Goals as goal

pub loop-app-preserved : goal.loop-app-preserved
loop-app-preserved c = grind (arith, bit_at_or)
