use Rattle.arb_model.proofs.LegalLaws.{legal_allowed, legal_empty, legal_next, legal_prefix}
use Rattle.arb_model.proofs.laws.legal_histories_go_on.Goals as goal

pub returns : goal.returns
returns c = record { empty = legal_empty; prefix = legal_prefix; next = legal_next; allowed = legal_allowed }
