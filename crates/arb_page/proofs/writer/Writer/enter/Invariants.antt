-- The event is the entry of the order.
use Rattle.arb_model.specs.declared.orders.Event.TheVariants.{Entered}
use Rattle.arb_model.specs.History.{entry_after}
use Rattle.arb_page.proofs.writer.Writer.enter.Given as goal

abbrev pub ghosts-enter_as : goal.ghosts-enter_as
ghosts-enter_as g a = record { event = Entered (entry_after a.self.now.seen a.client a.order.now a.reply.now) }
