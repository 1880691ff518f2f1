use Rattle.arb_model.proofs.FactLaws.{legal_prop}
use Rattle.arb_model.proofs.laws.legality_is_a_fact.Goals as goal

pub returns : goal.returns
returns c = legal_prop
