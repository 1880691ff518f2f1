use Rattle.std.proofs.Common.{suc, arith}
use Rattle.std.proofs.lemmas.Nat.{leading_top}
use Rattle.std.proofs.lemmas.Nat.Bits.{bit_at_above}
use Rattle.arb_seats.specs.CoreSets.{set_size}
use Rattle.arb_seats.proofs.BitsLaws.{has_bit-zero}
use Rattle.arb_seats.proofs.PositionSetsLaws.{has_bit-top}
use Rattle.arb_seats.proofs.positions.last_position.Goals as goal

pub returns-then-set-eq0 : goal.returns-then-set-eq0
returns-then-set-eq0 c = grind (arith, has_bit-zero)

-- the last position stands before the zeros at the top
pub returns : goal.returns
returns c =
    let top = leading_top set_size c.args.set (omega (arith, c.if-set-eq0.false)) c.ranges.set.fits in
    (omega (arith, top.1), (grind (arith, top.1, has_bit-top c.args.set top.0 top.2 top.3), λ p after inside. grind (arith, top.1, bit_at_above c.args.set (suc top.0) p top.3)))
