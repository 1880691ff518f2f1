use Rattle.std.proofs.Common.{ℕ, sym, ◌∙◌, subst, ◌<◌, lit<}
use Rattle.arb_page.proofs.SeatLaws.{copies}
use Rattle.arb_page.proofs.note.Note.of_seat.Goals as goal

pub split_seat-seat-requires : goal.split_seat-seat-requires
split_seat-seat-requires g c =
    let pages = c.args.pages.now in
    (c.requires.table ∙ sym pages.table, subst (λ (n : ℕ). 0 < n) (sym pages.count) (lit< tt), copies _ _ _)
