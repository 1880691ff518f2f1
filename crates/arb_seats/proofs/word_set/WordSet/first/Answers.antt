use Rattle.arb_seats.proofs.Words.{◌≡◌, ℕ, ◌+◌, ◌*◌, List, None, Some, arith, sym, ◌∙◌, first_below, has_mark, mark_count, word_size}
use Rattle.std.proofs.Common.{subst}
use Rattle.arb_seats.proofs.WordSetLaws.{none_filled, filled_has, first_filled}
use Rattle.arb_seats.proofs.word_set.WordSet.first.Goals as goal

pub returns-in_err-row : goal.returns-in_err-row
returns-in_err-row c =
    c.from_residual.ensures
    ∙ subst (λ (rows : List ℕ). None ≡ first_below (has_mark rows) mark_count) c.self.view_is (sym (none_filled c.self.invariant c.in_err-row.ensures))

pub returns-in_err-place : goal.returns-in_err-place
returns-in_err-place c = grind (arith, filled_has)

pub returns : goal.returns
returns c =
    let row = c.in_ok-row.ensures in
    let place = c.in_ok-place.ensures in
    subst (λ (rows : List ℕ). Some (word_size * c.in_ok-row.row + c.in_ok-place.place) ≡ first_below (has_mark rows) mark_count) c.self.view_is
    (sym (first_filled c.self.invariant c.in_ok-row.row row.0 row.1.0 row.1.1 c.in_ok-place.place place.0 place.1.0 place.1.1))
