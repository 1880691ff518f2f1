use Rattle.arb_core.proofs.StateLaws.{rebalanced-as}
use Rattle.arb_core.proofs.state.ArbiterState.rebalance.Goals as goal

pub returns : goal.returns
returns c =
    let i = c.self.inside in
    rebalanced-as i.requests i.due i.seats c.rebalance.new.self i.clock i.counts c.args.self.now c.self.view_is c.self.invariant.0 c.rebalance.ensures
