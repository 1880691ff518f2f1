-- Between two orders no word is stale.
use Rattle.std.proofs.Common.{◌≡◌, None}
use Rattle.arb_model.specs.Posting.{next_stale_of}
use Rattle.bench_jobs.proofs.stepping.step.Given as goal

abbrev pub invariant-loop : goal.invariant-loop
invariant-loop l = next_stale_of l.core.standing l.core.posted ≡ None
