use Rattle.arb_model.proofs.OpeningLaws.{opening_settled}
use Rattle.arb_model.proofs.SettlingLaws.{states_begin}
use Rattle.arb_model.proofs.laws.histories_begin.Goals as goal

pub returns : goal.returns
returns c = record { settled = opening_settled; state = states_begin }
