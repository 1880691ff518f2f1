-- Each order is given where no word is stale.
use Rattle.std.proofs.Common.{◌≡◌, None}
use Rattle.arb_core.specs.Posting.{next_stale_of}
use Rattle.example_one_thread.proofs.main.Given as goal

abbrev pub invariant-orders : goal.invariant-orders
invariant-orders l = next_stale_of l.core.standing l.core.posted ≡ None
