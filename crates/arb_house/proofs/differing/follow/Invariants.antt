-- The journal so far was followed.
use Rattle.std.proofs.Common.{◌≡◌, length, take}
use Rattle.arb_model.specs.Limits.{clients}
use Rattle.arb_house.proofs.FollowLaws.{Follows}
use Rattle.arb_house.proofs.differing.follow.Given as goal

abbrev pub invariant-loop-entry : goal.invariant-loop-entry
invariant-loop-entry l = (length l.followed ≡ clients) × (length l.strayed ≡ clients) × Follows (take l.entry-index l.journal) l.survey.pasts.now l.followed l.strayed
