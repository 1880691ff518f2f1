use Rattle.arb_seats.proofs.Words.{◌≡◌, ◌+◌, ◌-◌, arith}
use Rattle.std.specs.Prelude.{◌%◌, ◌^◌}
use Rattle.arb_seats.proofs.BitsLaws.{first_cleared, some_place}
use Rattle.arb_seats.proofs.positions.without_first.Goals as goal

pub returns : goal.returns
returns c = λ q on none p.
    let before : (c.args.set + (2 ^ 128 - 1)) % 2 ^ 128 ≡ c.args.set - 1 = omega (arith, c.ranges.set.fits, some_place c.args.set q on) in
    rw before (first_cleared c.args.set q on none p)
