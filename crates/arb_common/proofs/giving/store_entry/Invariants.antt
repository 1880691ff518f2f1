-- The event is the entry of the order.
use Rattle.arb_common.specs.Giving.{entered_at}
use Rattle.arb_common.proofs.giving.store_entry.Given as goal

abbrev pub ghosts-store_entry_as : goal.ghosts-store_entry_as
ghosts-store_entry_as a = record { event = entered_at a.seat.now.me.0.seen a.client a.order.now a.reply.now }
