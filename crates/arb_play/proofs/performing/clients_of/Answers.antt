use Rattle.std.proofs.Common.{arith, sym, subst}
use Rattle.arb_house.specs.Opening.{AllApart}
use Rattle.arb_play.proofs.ClientLaws.{all_listed, clients_apart, marked_again, marked_new, none_marked}
use Rattle.arb_play.proofs.performing.clients_of.Goals as goal

pub loop-index-init : goal.loop-index-init
loop-index-init c = none_marked c.args.script.now _ c.new-ids.ensures.items

pub loop-index-preserved-then-named-index : goal.loop-index-preserved-then-named-index
loop-index-preserved-then-named-index c =
    marked_again _ _ _ _ _ _ _ c.client-client.ensures c.index.ensures.value c.index.ensures.within c.if-named-index.true c.loop-index.invariant

pub loop-index-preserved : goal.loop-index-preserved
loop-index-preserved c =
    marked_new _ _ _ _ _ _ _ _ _ c.client-client.ensures c.index.ensures.value c.index-in-loop-index.ensures.value c.index.ensures.within c.if-named-index.false c.in_ok-push.ensures.items c.loop-index.invariant

pub returns-clause-clients : goal.returns-clause-clients
returns-clause-clients c = all_listed c.args.script.now c.loop-index.index _ c.loop-index.named (omega (arith, c.len-index-end.ensures, c.loop-index-test.false)) c.loop-index.invariant

pub returns-clause-apart : goal.returns-clause-apart
returns-clause-apart c =
    subst AllApart (sym (returns-clause-clients c)) (clients_apart c.args.script.now)
