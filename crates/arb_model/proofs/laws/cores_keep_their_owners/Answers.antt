use Rattle.std.proofs.Common.{◌∙◌, sym}
use Rattle.arb_model.proofs.StepLaws.{keeps_unasked, step_changes_owners}
use Rattle.arb_model.proofs.laws.cores_keep_their_owners.Goals as goal

pub returns : goal.returns
returns c = record {
  owners = λ m s client order machine w. step_changes_owners m s client order (w ∙ sym machine.socket_each);
  unasked = λ m s client order machine w. keeps_unasked m s client order _ (step_changes_owners m s client order (w ∙ sym machine.socket_each));
}
