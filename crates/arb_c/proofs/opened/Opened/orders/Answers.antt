use Rattle.std.proofs.Common.{arith}
use Rattle.arb_c.proofs.opened.Opened.orders.Goals as goal

pub overflow_add-result : goal.overflow_add-result
overflow_add-result c = omega (arith, c.orders.ensures.total, c.self.invariant.1)
