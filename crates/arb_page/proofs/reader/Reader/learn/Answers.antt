use Rattle.std.proofs.Common.{ℕ, sym, ◌∙◌, subst, ◌<◌, lit<}
use Rattle.arb_page.proofs.StepLaws.{looks_by_name}
use Rattle.arb_page.proofs.reader.Reader.learn.Goals as goal

pub load-requires : goal.load-requires
load-requires g c =
    let pages = c.args.pages.now in (
      c.tell_seat.ensures.table ∙ c.self.invariant.table ∙ sym pages.table,
      subst (λ (n : ℕ). 0 < n) (sym pages.count) (lit< tt),
      looks_by_name _ _ _ _ _ _ pages.machine (lit< tt),
    )
