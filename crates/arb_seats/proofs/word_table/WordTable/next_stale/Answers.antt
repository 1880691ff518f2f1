use Rattle.arb_seats.proofs.PagesLaws.{first_within, next_none, next_some}
use Rattle.arb_seats.proofs.word_table.WordTable.next_stale.Goals as goal

pub returns-in_err-mark : goal.returns-in_err-mark
returns-in_err-mark c = rw (c.from_residual.ensures, ← c.self.view_is) (next_none c.self.invariant c.in_err-mark.ensures)

pub marked_at-requires : goal.marked_at-requires
marked_at-requires c = first_within c.self.invariant c.in_ok-mark.mark c.in_ok-mark.ensures

pub returns : goal.returns
returns c = rw (c.marked_at.ensures.word, ← c.self.view_is) (next_some c.self.invariant c.in_ok-mark.mark c.in_ok-mark.ensures)
