use Rattle.arb_seats.proofs.Words.{arith, cases_Bool, inl, inr}
use Rattle.std.specs.Int.{w128}
use Rattle.std.proofs.lemmas.Nat.Bits.{bit_at_set_same, bit_at_set_other, bit_at_clear_same, bit_at_clear_other, bit_at_or}
use Rattle.arb_seats.proofs.positions.put_position.Goals as goal

pub returns : goal.returns
returns c =
    elim (cases_Bool c.args.on) [
      | inl on ↦ rw on (grind (arith, bit_at_or, bit_at_set_same w128, bit_at_set_other w128, bit_at_clear_same w128, bit_at_clear_other w128))
      | inr off ↦ rw off (grind (arith, bit_at_or, bit_at_clear_same w128, bit_at_clear_other w128))
    ]
