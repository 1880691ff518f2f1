-- The pasts so far were taken in, by two steps each, and their lists given back; all else of what the server left is as it was.
use Rattle.std.proofs.Common.{◌≡◌, ◌*◌, ◌-◌, ◌++◌, List, length}
use Rattle.std.specs.Prelude.{All, vec_capacity, vec_len}
use Rattle.std.specs.Vec.Iter.{into_iter_items, into_iter_len}
use Rattle.arb_desk.specs.declared.past.Past.{Past}
use Rattle.arb_house.specs.OwnPasts.{IsOwnPast, IsTakenIn, first_lists, items_of_each}
use Rattle.arb_house.specs.Serving.{stepped}
use Rattle.arb_house.proofs.own_pasts.audit_own.Given as goal

abbrev pub invariant-loop-past : goal.invariant-loop-past
invariant-loop-past g l =
    (goal.iterator-loop-past g).can_next l.past-iterator
    × (goal.iterator-loop-past g).is_finite l.past-iterator
    × (into_iter_len l.past-iterator ≡ length (into_iter_items l.past-iterator))
    × All (λ past. IsOwnPast g.K.Set.table g.K.Set.machine l.fn.ended.served.queue past) (into_iter_items l.past-iterator)
    × ((done : List Past) × (l.fn.pasts.items ≡ done ++ into_iter_items l.past-iterator) × All (IsTakenIn l.fn.ended.served.seen l.fn.ended.served.taken) done × (l.ended.served ≡ stepped l.fn.ended.served (2 * length done))
    × (items_of_each l.lists.items ≡ items_of_each l.fn.lists.items ++ first_lists (vec_capacity l.fn.lists - vec_len l.fn.lists) done))
    × (vec_capacity l.lists ≡ vec_capacity l.fn.lists)
    × (l.ended.journal ≡ l.fn.ended.journal) × (l.ended.core ≡ l.fn.ended.core) × (l.ended.fault ≡ l.fn.ended.fault)
