use Rattle.arb_model.proofs.LegalLaws.{state_more}
use Rattle.arb_model.proofs.PostedLaws.{IsConsistent-after}
use Rattle.arb_model.proofs.laws.states_follow_histories.Goals as goal

pub returns : goal.returns
returns c = record { next = state_more; standing = λ m h machine l. (IsConsistent-after m h machine l).standing }
