-- Each past, gathered or not, is of a client of the server's queue.
use Rattle.std.proofs.Common.{◌≡◌, length}
use Rattle.std.specs.Prelude.{All}
use Rattle.std.specs.Vec.Iter.{into_iter_items, into_iter_len}
use Rattle.arb_house.specs.OwnPasts.{IsOwnPast}
use Rattle.example_two_runtimes.proofs.share.Given as goal

abbrev pub invariant-loop-done : goal.invariant-loop-done
invariant-loop-done g l =
    (goal.iterator-loop-done g).can_next l.done-iterator × (goal.iterator-loop-done g).is_finite l.done-iterator
    × All (λ left. IsOwnPast g.K.Set.table g.K.Set.machine l.ended.served.queue left.1) (into_iter_items l.done-iterator)
    × All (λ past. IsOwnPast g.K.Set.table g.K.Set.machine l.ended.served.queue past) l.pasts.items
    × (into_iter_len l.done-iterator ≡ length (into_iter_items l.done-iterator))
