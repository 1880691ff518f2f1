use Rattle.arb_seats.proofs.Words.{arith, ◌≡◌, ℕ, ◌+◌, ◌-◌, ◌/◌, true, set_size}
use Rattle.std.specs.Prelude.{◌^◌}
use Rattle.std.specs.Int.{trailing_zeros, w128}
use Rattle.std.proofs.lemmas.Nat.Bits.{bit_at_above, bit_at-trailing_zeros}
use Rattle.arb_seats.specs.Bits.{has_bit}
use Rattle.arb_seats.proofs.BitsLaws.{has_bit-from, has_bit-shifted}
use Rattle.arb_seats.proofs.positions.first_position.Goals as goal

pub returns-then-rest-eq0 : goal.returns-then-rest-eq0
returns-then-rest-eq0 c = λ p le less. grind (arith, has_bit-from c.args.set c.args.from p le)

-- the first position is the number of zeros behind the shifted set
pub returns : goal.returns
returns c =
    let n : ℕ = c.args.set in
    let from : ℕ = c.args.from in
    let zeros : ℕ = trailing_zeros w128 (n / 2 ^ from) in
    let lowest = bit_at-trailing_zeros w128 (n / 2 ^ from) (omega arith) (omega arith) in
    let there : has_bit n (from + zeros) ≡ true = grind (arith, has_bit-shifted n from zeros) in
    (omega arith, (grind (arith, bit_at_above n set_size (from + zeros)), (there, λ p le less. grind (arith, has_bit-from n from p le, lowest.2 (p - from)))))
