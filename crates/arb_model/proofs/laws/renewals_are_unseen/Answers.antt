use Rattle.arb_model.proofs.RenewalLaws.{endless_after, unseen_after}
use Rattle.arb_model.proofs.laws.renewals_are_unseen.Goals as goal

pub returns : goal.returns
returns c = record { unseen = unseen_after; endless = endless_after }
