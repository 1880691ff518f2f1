use Rattle.std.proofs.Common.{ℕ, sym, ap, ◌∙◌, subst, ◌<◌}
use Rattle.arb_page.proofs.StepLaws.{appends_by_name}
use Rattle.arb_page.proofs.writer.append.Goals as goal

pub store-requires : goal.store-requires
store-requires g c =
    let pages = c.args.pages.now in
    let seat = c.requires.seat in
    let word = c.requires.word in (
      seat.table ∙ sym pages.table,
      subst (λ (n : ℕ). c.args.word < n) (sym pages.count) word.0,
      appends_by_name _ _ _ _ _ _ _ _ pages.machine (ap (λ me. me.0.writes) seat.view) seat.legal c.requires.follows word.1 word.0 c.requires.value,
    )
