use Rattle.std.proofs.Common.{◌≡◌, ◌++◌, true, length, map}
use Rattle.std.specs.Prelude.{All}
use Rattle.std.specs.Vec.Iter.{into_iter_items, into_iter_len}
use Rattle.arb_play.specs.Performing.{IsFresh}
use Rattle.arb_play.specs.Scripts.{clients_in}
use Rattle.arb_play.proofs.performing.fn.run_all.scope.Given as goal

abbrev pub invariant-loop-client : goal.invariant-loop-client
invariant-loop-client g l =
    (goal.iterator-loop-client g).can_next l.client-iterator
    × (goal.iterator-loop-client g).is_finite l.client-iterator
    × All (IsFresh l.server.queue) (into_iter_items l.client-iterator)
    × All (λ h. (h.promise.0.now ≡ l.script) × (h.promise.1.now ≡ l.gate) × (h.promise.3.value.queue ≡ l.server.queue)) l.handles.items
    × (into_iter_len l.client-iterator ≡ length (into_iter_items l.client-iterator))
    × (l.all ≡ true → map (λ h. h.promise.2) l.handles.items ++ map (λ side. side.id) (into_iter_items l.client-iterator) ≡ clients_in l.script)
