use Rattle.std.proofs.Common.{ℕ, ◌<◌, sym, ap, subst, lit<}
use Rattle.atomic_table.specs.Table.{Me}
use Rattle.arb_model.specs.Arbiter.{Arbiter}
use Rattle.arb_common.specs.declared.table.SeatView.{SeatView}
use Rattle.arb_common.proofs.KeepLaws.{copies}
use Rattle.arb_common.proofs.seats.copy_seat.Goals as goal

pub split_seat-requires : goal.split_seat-requires
split_seat-requires c = (c.requires.table, subst (λ (n : ℕ). 0 < n) (sym c.args.common.now.words) (lit< tt), copies _ _ _ (ap (λ (me : Me Arbiter SeatView). me.0.spent) c.requires.view))
