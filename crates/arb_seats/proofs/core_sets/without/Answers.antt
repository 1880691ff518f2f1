use Rattle.std.proofs.Common.{arith}
use Rattle.std.specs.Int.{w128}
use Rattle.std.proofs.lemmas.Nat.Bits.{bit_at_and, bit_at_not}
use Rattle.arb_seats.proofs.core_sets.without.Goals as goal

pub returns : goal.returns
returns c = grind (arith, bit_at_and, bit_at_not w128)
