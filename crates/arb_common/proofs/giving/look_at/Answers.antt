use Rattle.std.proofs.Common.{◌∷◌, sym, ap, ◌∙◌}
use Rattle.atomic_table.specs.Table.{Me, rest}
use Rattle.arb_model.specs.Arbiter.{Arbiter}
use Rattle.arb_common.specs.declared.table.SeatView.{SeatView}
use Rattle.arb_common.proofs.giving.look_at.Goals as goal

pub slot_mut-core-requires : goal.slot_mut-core-requires
slot_mut-core-requires g c =
    let is = ap (λ (me : Me Arbiter SeatView). me.1) c.requires.lock.seat in
    let a : Arbiter = c.requires.lock.arbiter in
    (c.requires.table, (a, is ∙ ap (λ l. (0, a) ∷ rest l) (sym is)))
