use Rattle.arb_model.proofs.SettlingLaws.{legal_is_arbiter}
use Rattle.arb_model.proofs.laws.histories_lead_to_arbiters.Goals as goal

pub returns : goal.returns
returns c = legal_is_arbiter
