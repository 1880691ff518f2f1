-- Each post makes the stale words one fewer.
use Rattle.arb_model.specs.Posting.{stale_count}
use Rattle.bench_jobs.proofs.stepping.post_each.Given as goal

abbrev pub invariant-loop-w : goal.invariant-loop-w
invariant-loop-w l = Unit {0}

abbrev pub decreases-loop-w : goal.decreases-loop-w
decreases-loop-w l = stale_count l.core.standing l.core.posted
