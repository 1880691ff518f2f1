-- The clients that are left have no open order, and are of the server's queue, as are those whose threads run; and each past so far is of a client of that queue.
use Rattle.std.proofs.Common.{◌≡◌, [], length}
use Rattle.std.specs.Prelude.{All}
use Rattle.std.specs.Vec.Iter.{into_iter_items, into_iter_len}
use Rattle.std.specs.Arc.{arc_value}
use Rattle.arb_house.specs.Passes.{queue_id}
use Rattle.arb_house.specs.OwnPasts.{IsOwnPast}
use Rattle.example_two_runtimes.proofs.fn.run_all.scope.Given as goal

abbrev pub invariant-loop-client : goal.invariant-loop-client
invariant-loop-client g l =
    (goal.iterator-loop-client g).can_next l.client-iterator × (goal.iterator-loop-client g).is_finite l.client-iterator
    × All (λ c. (c.out ≡ []) × (c.queue ≡ queue_id (arc_value l.server-inside.ends.desk).orders)) (into_iter_items l.client-iterator)
    × All (λ h. h.promise.0.value.queue ≡ queue_id (arc_value l.server-inside.ends.desk).orders) l.threads.items
    × (into_iter_len l.client-iterator ≡ length (into_iter_items l.client-iterator))

abbrev pub invariant-loop-thread : goal.invariant-loop-thread
invariant-loop-thread g l =
    (goal.iterator-loop-thread g).can_next l.thread-iterator × (goal.iterator-loop-thread g).is_finite l.thread-iterator
    × All (λ h. h.promise.0.value.queue ≡ l.ended.served.queue) (into_iter_items l.thread-iterator)
    × All (λ left. IsOwnPast g.K.Set.table g.K.Set.machine l.ended.served.queue left.1) l.left.items
    × (into_iter_len l.thread-iterator ≡ length (into_iter_items l.thread-iterator))
