-- The server's pass stays one of the queue.
use Rattle.std.proofs.Common.{◌≡◌, true}
use Rattle.crossbeam_queue.specs.Passes.{IsPassOf, view}
use Rattle.test_client.proofs.tests.woken.next_body.Given as goal

abbrev pub invariant-loop : goal.invariant-loop
invariant-loop g l =
    (goal.iterator-loop g).can_next l.iterator' × (goal.iterator-loop g).is_finite l.iterator'
    × IsPassOf l.desk.orders l.server × ((view l.server).is_server ≡ true)
