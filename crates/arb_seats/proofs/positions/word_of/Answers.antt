use Rattle.std.proofs.Common.{◌≡◌, arith, ◌∙◌}
use Rattle.std.specs.Prelude.{◌^◌, ◌/◌, ◌%◌}
use Rattle.std.proofs.lemmas.Nat.{and_mask}
use Rattle.arb_model.specs.Layout.{half_size}
use Rattle.arb_seats.proofs.positions.word_of.Goals as goal

pub returns-in-Low : goal.returns-in-Low
returns-in-Low c =
    let whole : c.args.set % 2 ^ half_size ≡ c.args.set / 2 ^ 0 % 2 ^ half_size = omega arith in
    rw c.in-Low.is (and_mask c.args.set half_size ∙ whole)
