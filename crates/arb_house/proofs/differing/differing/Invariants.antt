-- The clients so far are marked where they differ.
use Rattle.std.proofs.Common.{◌≡◌, length}
use Rattle.arb_model.specs.Limits.{clients}
use Rattle.arb_house.proofs.FollowLaws.{MarkedBelow}
use Rattle.arb_house.proofs.differing.differing.Given as goal

abbrev pub invariant-loop-number : goal.invariant-loop-number
invariant-loop-number l = (length l.marks ≡ clients) × MarkedBelow l.journal l.survey.pasts.now l.initial.marks l.number l.marks
