use Rattle.arb_share.proofs.CutLaws.{IsCut-cut_of, IsCut-ExactlyOne}
use Rattle.arb_share.proofs.laws.cut_is_unique.Goals as goal

pub returns : goal.returns
returns c = record { one = IsCut-ExactlyOne; named = IsCut-cut_of }
