use Rattle.arb_seats.proofs.Words.{arith, sym, has_mark, mark_count, first_below_found}
use Rattle.arb_seats.proofs.PagesLaws.{first_within, mark_is, next_none, next_some, post_marked}
use Rattle.arb_seats.proofs.word_table.WordTable.post_next.Goals as goal

pub returns-in_err-mark-clause-next : goal.returns-in_err-mark-clause-next
returns-in_err-mark-clause-next c = rw c.from_residual.ensures (grind (arith, next_none c.self.invariant c.in_err-mark.ensures.first))

pub marked_at-w-requires : goal.marked_at-w-requires
marked_at-w-requires c = first_within c.self.invariant c.in_ok-mark.mark c.in_ok-mark.ensures.first

pub invariant_of-self-2 : goal.invariant_of-self-2
invariant_of-self-2 c =
    let found = first_below_found (has_mark c.self.inside.stale) mark_count c.in_ok-mark.mark (sym c.in_ok-mark.ensures.first) in
    let at = mark_is c.self.invariant c.in_ok-mark.mark found.0 found.1.0 in
    rw c.marked_at-w.ensures.word (post_marked _ c.self.invariant (omega (arith, c.marked_at-w.ensures)) (rw (sym at) at c.in_ok-mark.ensures.rest))

pub returns-clause-next : goal.returns-clause-next
returns-clause-next c = grind (arith, next_some c.self.invariant c.in_ok-mark.mark c.in_ok-mark.ensures.first)
