use Rattle.std.proofs.Common.{ℕ, ◌<◌, sym, subst, lit<}
use Rattle.arb_model.specs.Layout.{word_count}
use Rattle.arb_common.proofs.KeepLaws.{gives_up}
use Rattle.arb_common.proofs.seats.leave_lock.Goals as goal

pub store-requires : goal.store-requires
store-requires c = (c.requires.table, subst (λ (n : ℕ). word_count < n) (sym c.args.common.now.words) (lit< tt), gives_up _ _ _ _ c.args.common.now.slots c.requires.lock c.requires.settled)
