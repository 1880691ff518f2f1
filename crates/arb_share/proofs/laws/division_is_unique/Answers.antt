use Rattle.arb_share.proofs.DivisionLaws.{DividesEvenly-even_of, DividesEvenly-ExactlyOne}
use Rattle.arb_share.proofs.laws.division_is_unique.Goals as goal

pub returns : goal.returns
returns c = record { one = DividesEvenly-ExactlyOne; named = DividesEvenly-even_of }
