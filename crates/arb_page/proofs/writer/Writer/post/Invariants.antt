-- The event is the post of the word.
use Rattle.arb_model.specs.declared.orders.Event.TheVariants.{Posted}
use Rattle.arb_page.proofs.writer.Writer.post.Given as goal

abbrev pub ghosts-append : goal.ghosts-append
ghosts-append g a = record { event = Posted a.word a.value }
