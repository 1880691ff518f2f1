use Rattle.arb_seats.proofs.Words.{arith}
use Rattle.std.specs.Int.{w64}
use Rattle.std.proofs.lemmas.Nat.Bits.{bit_at-trailing_zeros}
use Rattle.arb_seats.proofs.BitsLaws.{has_bit-zero}
use Rattle.arb_seats.proofs.bits.first_place.Goals as goal

pub returns-then-bits-eq0 : goal.returns-then-bits-eq0
returns-then-bits-eq0 c = λ p. grind (arith, has_bit-zero p)

pub returns : goal.returns
returns c =
    let lowest = bit_at-trailing_zeros w64 c.args.bits (omega arith) (omega arith) in
    (lowest.0, (grind (arith, lowest.1), λ p less. grind (arith, lowest.2 p)))
