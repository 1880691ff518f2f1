use Rattle.std.proofs.Common.{arith}
use Rattle.std.proofs.lemmas.Nat.Bits.{bit_at_and}
use Rattle.arb_seats.proofs.core_sets.both.Goals as goal

pub returns : goal.returns
returns c = grind (arith, bit_at_and)
