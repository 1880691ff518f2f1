use Rattle.std.proofs.Common.{ℕ, ◌+◌, ◌<◌, sym, ap, subst, arith}
use Rattle.atomic_table.specs.Table.{Me}
use Rattle.arb_model.specs.Arbiter.{Arbiter}
use Rattle.arb_model.specs.Layout.{word_count}
use Rattle.arb_common.specs.declared.table.SeatView.{SeatView}
use Rattle.arb_common.proofs.KeepLaws.{checks}
use Rattle.arb_common.proofs.seats.check_word.Goals as goal

pub load-requires : goal.load-requires
load-requires c =
    let low : c.args.word < word_count + 1 = omega (arith, c.requires.word) in
    (c.requires.table, subst (λ (n : ℕ). c.args.word < n) (sym c.args.common.now.words) low, checks _ _ _ _ _ (ap (λ (me : Me Arbiter SeatView). me.0.holds) c.requires.lock.seat) c.requires.word)
