use Rattle.std.proofs.Common.{ℕ, ◌<◌, sym, ap, ◌∙◌, subst, lit<}
use Rattle.atomic_table.specs.Table.{Me}
use Rattle.arb_model.specs.Arbiter.{Arbiter}
use Rattle.arb_common.specs.declared.table.SeatView.{SeatView}
use Rattle.arb_common.proofs.KeepLaws.{looks, tells}
use Rattle.arb_common.proofs.seats.take_in.Goals as goal

pub join_seat-requires : goal.join_seat-requires
join_seat-requires c =
    let other = c.requires.other in (
      c.requires.table,
      other.0,
      ap (λ (me : Me Arbiter SeatView). me.1) other.1,
      subst (λ (n : ℕ). 0 < n) (sym c.args.common.now.words) (lit< tt),
      tells _ _ _ _ _ (ap (λ (me : Me Arbiter SeatView). me.0.own.mine) other.1),
    )

pub load-requires : goal.load-requires
load-requires c =
    let joined = c.join_seat.ensures in
    let view = c.requires.view in (
      joined.0 ∙ c.requires.table,
      subst (λ (n : ℕ). 0 < n) (sym c.args.common.now.words) (lit< tt),
      looks _ _ _ _ _ (ap (λ (me : Me Arbiter SeatView). me.1) joined.2 ∙ ap (λ (me : Me Arbiter SeatView). me.1) view)
          (ap (λ (me : Me Arbiter SeatView). me.0.spent) joined.2 ∙ ap (λ (me : Me Arbiter SeatView). me.0.spent) view) (lit< tt),
    )
