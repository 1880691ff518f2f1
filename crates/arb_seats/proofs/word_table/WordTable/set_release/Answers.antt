use Rattle.arb_seats.proofs.PagesLaws.{release_marked}
use Rattle.arb_seats.proofs.word_table.WordTable.set_release.Goals as goal

pub invariant_of-self : goal.invariant_of-self
invariant_of-self c = release_marked c.args.w c.args.value c.self.invariant c.requires.some c.requires.within c.requires.release c.mark.ensures
