use Rattle.std.proofs.Common.{◌≡◌, None, false, length, map}
use Rattle.std.specs.Prelude.{All, IfSome, unwrap_or}
use Rattle.std.specs.Vec.Iter.{into_iter_items, into_iter_len}
use Rattle.arb_desk.specs.Passes.{QueueId}
use Rattle.arb_house.specs.OwnPasts.{IsOwnPast}
use Rattle.arb_play.specs.GivingUp.{MayBeGivenUp}
use Rattle.arb_play.specs.Joining.{AllAnswered}
use Rattle.arb_play.proofs.GivingUpLaws.{ThroughBut}
use Rattle.arb_play.proofs.joining.join_all.Given as goal

abbrev pub invariant-loop-handle : goal.invariant-loop-handle
invariant-loop-handle g l =
    (goal.iterator-loop-handle g).can_next l.handle-iterator
    × (goal.iterator-loop-handle g).is_finite l.handle-iterator
    × All (λ h. (h.promise.0.now ≡ l.script) × (h.promise.1.now ≡ l.gate)) (into_iter_items l.handle-iterator)
    × IfSome l.joined.gave_up (MayBeGivenUp (g.G.Gate.may_give_up l.gate) l.script)
    × (l.joined.gave_up ≡ None → l.joined.lost ≡ false → AllAnswered l.script l.joined.pasts.items l.joined.full_from.items)
    × (into_iter_len l.handle-iterator ≡ length (into_iter_items l.handle-iterator))
    × (l.joined.stopped ≡ false → ThroughBut (g.G.Gate.may_let_through l.gate) l.script (unwrap_or l.joined.gave_up (length l.script)) (map (λ h. h.promise.2) (into_iter_items l.handle-iterator)))
    × ((queue : QueueId) → All (λ h. h.promise.3.value.queue ≡ queue) l.fn.handles.items
    → All (λ h. h.promise.3.value.queue ≡ queue) (into_iter_items l.handle-iterator) × All (IsOwnPast g.K.Set.table g.K.Set.machine queue) l.joined.pasts.items)
