use Rattle.arb_model.proofs.WellFormedLaws.{IsStanding-opening, IsStanding-step}
use Rattle.arb_model.proofs.laws.standings_stay_well_formed.Goals as goal

pub returns : goal.returns
returns c = record { opening = IsStanding-opening; step = IsStanding-step }
