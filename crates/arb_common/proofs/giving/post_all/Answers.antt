use Rattle.std.proofs.Common.{◌∙◌, sym, ap}
use Rattle.atomic_table.specs.Table.{Me}
use Rattle.arb_model.specs.Arbiter.{Arbiter}
use Rattle.arb_common.specs.declared.table.SeatView.{SeatView}
use Rattle.arb_common.proofs.StandLaws.{settled_is}
use Rattle.arb_common.proofs.giving.post_all.Goals as goal

pub returns-clause-seen : goal.returns-clause-seen
returns-clause-seen c =
    let none = c.in_default.ensures.settled in
    ap (λ (me : Me Arbiter SeatView). me.0.seen) none.0 ∙ sym (settled_is _ _ none.1) ∙ c.loop-w.invariant.settles
