use Rattle.arb_seats.proofs.Words.{sym, has_mark, mark_count, first_below_found}
use Rattle.arb_seats.proofs.word_set.WordSet.take_first.Goals as goal

pub mark-requires : goal.mark-requires
mark-requires c = (first_below_found (has_mark c.args.self.now) mark_count c.in_ok-place.place (sym c.in_ok-place.ensures)).0
