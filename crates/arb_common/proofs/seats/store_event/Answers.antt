use Rattle.std.proofs.Common.{ℕ, ◌+◌, ◌<◌, sym, ap, subst, arith}
use Rattle.atomic_table.specs.Table.{Me}
use Rattle.arb_model.specs.Arbiter.{Arbiter}
use Rattle.arb_model.specs.Layout.{word_count}
use Rattle.arb_common.specs.declared.table.SeatView.{SeatView}
use Rattle.arb_common.proofs.KeepLaws.{appends}
use Rattle.arb_common.proofs.seats.store_event.Goals as goal

pub store-requires : goal.store-requires
store-requires g c =
    let r = c.requires in
    let low : c.args.word < word_count + 1 = omega (arith, r.word.0) in
    (r.table, subst (λ (n : ℕ). c.args.word < n) (sym c.args.common.now.words) low, appends _ _ _ _ _ _ _ (ap (λ (me : Me Arbiter SeatView). me.0.holds) r.lock.seat) (ap (λ (me : Me Arbiter SeatView). me.0.spent) r.lock.seat) r.legal r.follows r.word.1 r.word.0 r.value)
