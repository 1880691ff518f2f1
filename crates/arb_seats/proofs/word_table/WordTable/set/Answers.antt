use Rattle.arb_seats.proofs.PagesLaws.{set_marked}
use Rattle.arb_seats.proofs.word_table.WordTable.set.Goals as goal

pub invariant_of-self : goal.invariant_of-self
invariant_of-self c = set_marked c.args.w c.args.value c.self.invariant c.requires.some c.requires.within (rw c.mark_at.ensures at c.mark.ensures)
