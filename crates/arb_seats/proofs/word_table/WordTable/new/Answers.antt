use Rattle.arb_seats.proofs.Words.{refl, row_count, word_count}
use Rattle.arb_seats.proofs.PagesLaws.{none_marked}
use Rattle.arb_seats.proofs.word_table.WordTable.new.Goals as goal

pub invariant_of-result : goal.invariant_of-result
invariant_of-result c = rw c.new.ensures (none_marked word_count row_count refl)
