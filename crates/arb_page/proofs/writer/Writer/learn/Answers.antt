use Rattle.std.proofs.Common.{ℕ, sym, ap, ◌∙◌, subst, ◌<◌, lit<}
use Rattle.arb_page.proofs.StepLaws.{checks}
use Rattle.arb_page.proofs.writer.Writer.learn.Goals as goal

pub load-requires : goal.load-requires
load-requires g c =
    let pages = c.args.pages.now in
    let seat = c.self.invariant.0 in (
      c.tell_seat.ensures.table ∙ seat.table ∙ sym pages.table,
      subst (λ (n : ℕ). 0 < n) (sym pages.count) (lit< tt),
      checks _ _ _ _ _ (ap (λ me. me.0.writes) c.tell_seat.ensures.seat ∙ ap (λ me. me.0.writes) seat.view),
    )
