use Rattle.std.proofs.Common.{ℕ, sym, ap, ◌∙◌, subst, ◌<◌, lit<}
use Rattle.arb_page.specs.Names.{Standpoint}
use Rattle.arb_page.proofs.StepLaws.{looks_by_name}
use Rattle.arb_page.proofs.point.Point.into_reader.Goals as goal

pub load-requires : goal.load-requires
load-requires g c =
    let pages = c.args.pages.now in (
      ap (λ (p : Standpoint). p.table) c.self.view_is ∙ c.requires ∙ sym pages.table,
      subst (λ (n : ℕ). 0 < n) (sym pages.count) (lit< tt),
      looks_by_name _ _ _ _ _ _ pages.machine (lit< tt),
    )
