use Rattle.arb_seats.proofs.Words.{arith}
use Rattle.arb_seats.proofs.SettlingLaws.{none_left, stale_fewer}
use Rattle.arb_seats.proofs.word_table.WordTable.settle.Goals as goal

pub loop-post-smaller : goal.loop-post-smaller
loop-post-smaller c = grind (arith, stale_fewer c.loop-post.self, c.post_next.ensures, c.in-Some.ensures)

pub returns : goal.returns
returns c = grind (arith, none_left c.loop-post.self, c.in_default.ensures)
