use Rattle.arb_seats.proofs.PagesLaws.{post_marked}
use Rattle.arb_seats.proofs.word_table.WordTable.post.Goals as goal

pub invariant_of-self : goal.invariant_of-self
invariant_of-self c = post_marked c.args.w c.self.invariant c.requires (rw c.mark_at-mark.ensures at c.mark.ensures)
