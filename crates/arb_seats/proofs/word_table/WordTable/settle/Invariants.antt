-- The words are as they were, and fewer and fewer are stale.
use Rattle.arb_seats.proofs.Words.{◌≡◌}
use Rattle.arb_seats.proofs.SettlingLaws.{stale_in}
use Rattle.arb_seats.proofs.word_table.WordTable.settle.Given as goal

abbrev pub invariant-loop-post : goal.invariant-loop-post
invariant-loop-post l = l.self.words ≡ l.fn.self.words

abbrev pub decreases-loop-post : goal.decreases-loop-post
decreases-loop-post l = stale_in l.self
