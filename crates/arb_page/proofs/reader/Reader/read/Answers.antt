use Rattle.std.proofs.Common.{ℕ, sym, ◌∙◌, subst, ◌<◌}
use Rattle.arb_page.proofs.StepLaws.{looks_by_name}
use Rattle.arb_page.proofs.reader.Reader.read.Goals as goal

pub load-requires : goal.load-requires
load-requires g c =
    let pages = c.args.pages.now in (
      c.self.invariant.table ∙ sym pages.table,
      subst (λ (n : ℕ). c.args.word < n) (sym pages.count) c.requires,
      looks_by_name _ _ _ _ _ _ pages.machine c.requires,
    )
