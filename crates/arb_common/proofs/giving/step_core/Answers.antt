use Rattle.std.proofs.Common.{◌∷◌, sym, ap, ◌∙◌}
use Rattle.atomic_table.specs.Table.{Me, rest}
use Rattle.arb_model.specs.Arbiter.{Arbiter}
use Rattle.arb_common.specs.declared.table.SeatView.{SeatView}
use Rattle.arb_common.proofs.StandLaws.{held, steps, was_settled}
use Rattle.arb_common.proofs.giving.step_core.Goals as goal

pub slot_mut-core-requires : goal.slot_mut-core-requires
slot_mut-core-requires c =
    let is = ap (λ (me : Me Arbiter SeatView). me.1) c.requires.lock.seat in
    let a : Arbiter = c.requires.lock.arbiter in
    (c.requires.table, (a, is ∙ ap (λ l. (0, a) ∷ rest l) (sym is)))

pub make_room-requires : goal.make_room-requires
make_room-requires c =
    let r = c.requires in
    let at = held _ _ _ _ r.lock c.slot_mut-core.ensures.value in
    record { arbiter = at.arbiter; settled = was_settled _ _ _ r.legal at r.settled }

pub returns-clause-steps : goal.returns-clause-steps
returns-clause-steps c =
    let r = c.requires in
    let step = c.step.ensures in
    let at = held _ _ _ _ r.lock c.slot_mut-core.ensures.value in
    steps _ _ _ _ _ _ _ _ r.legal r.settled r.room r.lock (c.make_room.ensures.stands _ _ at) step.enters step.step step.machine step.posted step.arbiter
