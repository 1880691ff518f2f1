-- The server's pass stays one of the queue.
use Rattle.std.proofs.Common.{◌≡◌, true}
use Rattle.crossbeam_queue.specs.Passes.{IsPassOf, view}
use Rattle.test_client.proofs.tests.strangers.has_put.Given as goal

abbrev pub invariant-loop-gives : goal.invariant-loop-gives
invariant-loop-gives g l = IsPassOf l.desk.orders l.server × ((view l.server).is_server ≡ true)
