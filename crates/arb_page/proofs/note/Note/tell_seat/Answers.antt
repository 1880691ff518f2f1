use Rattle.std.proofs.Common.{ℕ, sym, ap, ◌∙◌, subst, ◌<◌, lit<}
use Rattle.arb_page.proofs.SeatLaws.{tells}
use Rattle.arb_page.proofs.note.Note.tell_seat.Goals as goal

pub join_seat-requires : goal.join_seat-requires
join_seat-requires g c =
    let pages = c.args.pages.now in
    let note = c.self.invariant in (
      c.requires.table ∙ sym pages.table,
      note.table ∙ sym pages.table,
      ap (λ me. me.1) note.view,
      subst (λ (n : ℕ). 0 < n) (sym pages.count) (lit< tt),
      tells _ _ _ _ _,
    )
