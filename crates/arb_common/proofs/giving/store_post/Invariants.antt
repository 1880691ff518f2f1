-- The event is the post of the word.
use Rattle.arb_model.specs.declared.orders.Event.TheVariants.{Posted}
use Rattle.arb_common.proofs.giving.store_post.Given as goal

abbrev pub ghosts-store_event : goal.ghosts-store_event
ghosts-store_event a = record { event = Posted a.word a.value }
