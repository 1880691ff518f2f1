use Rattle.arb_play.proofs.OwnOrdersLaws.{Indexed}
use Rattle.arb_play.proofs.own_orders.OwnOrders.of.Given as goal

-- the orders from this one on are indexed
abbrev pub invariant-loop-index : goal.invariant-loop-index
invariant-loop-index l = Indexed l.script l.index l.first l.next.items

abbrev pub decreases-loop-index : goal.decreases-loop-index
decreases-loop-index l = l.index
