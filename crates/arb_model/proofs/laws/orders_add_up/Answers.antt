use Rattle.arb_model.proofs.JournalLaws.{orders_add, orders_grow}
use Rattle.arb_model.proofs.SettlingLaws.{orders_within, sums_orders}
use Rattle.arb_model.proofs.laws.orders_add_up.Goals as goal

pub returns : goal.returns
returns c = record { add = orders_add; grow = orders_grow; sum = sums_orders; within = orders_within }
