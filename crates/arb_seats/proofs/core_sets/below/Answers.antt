use Rattle.std.proofs.Common.{◌≡◌, arith}
use Rattle.std.specs.Prelude.{◌-◌, ◌/◌, ◌^◌}
use Rattle.std.proofs.lemmas.Nat.Bits.{bit_at_ones, bit_at_ones_above, ones_shr}
use Rattle.arb_seats.specs.CoreSets.{set_size}
use Rattle.arb_seats.proofs.core_sets.below.Goals as goal

pub returns : goal.returns
returns c =
    let is : (2 ^ set_size - 1) / 2 ^ (set_size - c.args.size) ≡ 2 ^ c.args.size - 1 = grind (arith, ones_shr set_size (set_size - c.args.size)) in
    grind (arith, bit_at_ones, bit_at_ones_above)
