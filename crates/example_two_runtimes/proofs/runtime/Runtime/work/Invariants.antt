-- No order is open before each slice, and the client's queue is the same.
use Rattle.std.proofs.Common.{◌≡◌, []}
use Rattle.example_two_runtimes.proofs.runtime.Runtime.work.Given as goal

abbrev pub invariant-loop : goal.invariant-loop
invariant-loop g l = (goal.iterator-loop g).can_next l.iterator' × (goal.iterator-loop g).is_finite l.iterator' × (l.client.out ≡ []) × (l.client.queue ≡ l.fn.client.queue)
