-- The arbiter stands where the history leads, which goes on by posts alone; each post makes the stale words one fewer.
use Rattle.arb_model.specs.Posting.{stale_count}
use Rattle.arb_house.specs.Recording.{GoesOnByPosts, StandsAt}
use Rattle.arb_house.proofs.publisher.post_all.Given as goal

abbrev pub invariant-loop-w : goal.invariant-loop-w
invariant-loop-w g l = record { stands : StandsAt g.K.Set.machine l.writer.seen l.core; posts : GoesOnByPosts l.initial.writer.seen l.writer.seen }

abbrev pub decreases-loop-w : goal.decreases-loop-w
decreases-loop-w g l = stale_count l.core.standing l.core.posted
