use Rattle.arb_house.proofs.OutcomeLaws.{Audits-ExactlyOne}
use Rattle.arb_house.proofs.laws.outcomes_are_unique.Goals as goal

pub returns : goal.returns
returns c = Audits-ExactlyOne
