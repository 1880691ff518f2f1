use Rattle.std.proofs.Common.{length, arith, ap}
use Rattle.arb_script.proofs.GivenLaws.{length-orders_by}
use Rattle.arb_script.proofs.order_list.OrderList.len.Goals as goal

pub returns : goal.returns
returns c = omega (arith, c.len.ensures, length-orders_by _ _ c.self.invariant, ap length c.self.view_is)
