use Rattle.std.proofs.Common.{ℕ, ◌<◌, sym, ap, subst, lit<}
use Rattle.atomic_table.specs.Table.{Me}
use Rattle.arb_model.specs.Arbiter.{Arbiter}
use Rattle.arb_model.specs.Layout.{word_count}
use Rattle.arb_common.specs.declared.table.SeatView.{SeatView}
use Rattle.arb_common.proofs.KeepLaws.{tries}
use Rattle.arb_common.proofs.seats.take_lock.Goals as goal

pub compare_exchange-requires : goal.compare_exchange-requires
compare_exchange-requires c = (c.requires.table, subst (λ (n : ℕ). word_count < n) (sym c.args.common.now.words) (lit< tt), tries _ _ _ _ (ap (λ (me : Me Arbiter SeatView). me.1) c.requires.view) (ap (λ (me : Me Arbiter SeatView). me.0.spent) c.requires.view))
