use Rattle.std.proofs.Common.{◌≡◌}
use Rattle.std.specs.Prelude.{None}
use Rattle.arb_model.specs.Posting.{next_stale_of}
use Rattle.test_draw.proofs.tests.owners.shows_owners.Given as goal

-- no word is stale between two orders
abbrev pub invariant-loop-index : goal.invariant-loop-index
invariant-loop-index g l = next_stale_of l.core.standing l.core.posted ≡ None
