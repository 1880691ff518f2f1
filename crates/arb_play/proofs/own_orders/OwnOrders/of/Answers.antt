use Rattle.std.proofs.Common.{◌≡◌, length, arith, rules, subst}
use Rattle.std.specs.Prelude.{slice_index}
use Rattle.arb_play.specs.OwnOrders.{IsNextOwn}
use Rattle.arb_play.proofs.OwnOrdersLaws.{none_indexed, one_indexed}
use Rattle.arb_play.proofs.own_orders.OwnOrders.of.Goals as goal

pub loop-index-init : goal.loop-index-init
loop-index-init c =
    let size : length c.in_ok-next.next.items ≡ c.len-orders.result = search rules in
    none_indexed c.args.script.now c.in_ok-next.next.items c.len-orders.result c.len-orders.ensures size

pub loop-index-preserved : goal.loop-index-preserved
loop-index-preserved c =
    one_indexed c.args.script.now _ c.loop-index.index c.client.result c.index-client.result c.loop-index.first c.loop-index.next.items (omega (arith, c.loop-index-test.true)) c.index-client.ensures.within c.client.ensures c.index-client.ensures.value c.loop-index.invariant

pub returns : goal.returns
returns c =
    let all = c.loop-index.invariant in
    let none : c.loop-index.index ≡ 0 = omega (arith, c.loop-index-test.false) in record {
      first = λ client below. subst (λ i. IsNextOwn c.args.script.now client i (slice_index c.loop-index.first client)) none (all.first client below);
      size = all.size;
      next = λ k given at. all.next k given (omega (arith, c.loop-index-test.false)) at;
    }
