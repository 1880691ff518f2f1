use Rattle.std.proofs.Common.{ℕ, ◌+◌, ◌<◌, sym, ap, subst, arith}
use Rattle.atomic_table.specs.Table.{Me}
use Rattle.arb_model.specs.Arbiter.{Arbiter}
use Rattle.arb_model.specs.Layout.{word_count}
use Rattle.arb_common.specs.declared.table.SeatView.{SeatView}
use Rattle.arb_common.proofs.KeepLaws.{looks}
use Rattle.arb_common.proofs.seats.load_word.Goals as goal

pub load-requires : goal.load-requires
load-requires c =
    let low : c.args.word < word_count + 1 = omega (arith, c.requires.word) in
    (c.requires.table, subst (λ (n : ℕ). c.args.word < n) (sym c.args.common.now.words) low, looks _ _ _ _ _ (ap (λ (me : Me Arbiter SeatView). me.1) c.requires.view) (ap (λ (me : Me Arbiter SeatView). me.0.spent) c.requires.view) c.requires.word)
