use Rattle.std.proofs.Common.{length, arith, ap}
use Rattle.arb_script.proofs.GivenLaws.{client_by, index_within}
use Rattle.arb_script.proofs.order_list.OrderList.client.Goals as goal

pub index-requires : goal.index-requires
index-requires c = omega (arith, index_within _ _ _ _ c.self.invariant (ap length c.self.view_is) c.requires, c.self.invariant)

pub returns : goal.returns
returns c =
    grind (arith, client_by _ _ c.args.index c.index.result.now c.self.invariant (index_within _ _ _ _ c.self.invariant (ap length c.self.view_is) c.requires), c.index.ensures, c.self.view_is)
