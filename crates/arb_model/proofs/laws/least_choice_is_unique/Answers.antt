use Rattle.arb_model.specs.Least.{least_of}
use Rattle.arb_model.proofs.LeastLaws.{PicksLeast-least_of, least_of-only}
use Rattle.arb_model.proofs.laws.least_choice_is_unique.Goals as goal

pub returns : goal.returns
returns c = record {
  one = λ keys candidates size. record { answer = least_of keys candidates size; is_answer = PicksLeast-least_of keys candidates size; only_answer = least_of-only keys candidates size };
  named = PicksLeast-least_of;
}
