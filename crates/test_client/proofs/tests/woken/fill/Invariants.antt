-- The pass stays one of the queue, and has put no close mark.
use Rattle.std.proofs.Common.{◌≡◌, true, false}
use Rattle.crossbeam_queue.specs.Passes.{IsPassOf, view}
use Rattle.arb_desk.specs.Messages.{is_closed}
use Rattle.test_client.proofs.tests.woken.fill.Given as goal

abbrev pub invariant-loop : goal.invariant-loop
invariant-loop g l =
    IsPassOf l.desk.orders l.pass × ((view l.pass).is_client ≡ true) × ((view l.pass).client ≡ 32) × (is_closed (view l.pass).put ≡ false)
