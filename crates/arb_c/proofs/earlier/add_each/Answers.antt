use Rattle.std.proofs.Common.{arith}
use Rattle.arb_c.proofs.RenewalLaws.{sums_are}
use Rattle.arb_c.proofs.earlier.add_each.Goals as goal

pub returns : goal.returns
returns c =
    sums_are c.args.earlier.now c.args.counts.now c.loop-client.earlier c.loop-client.invariant.long
    (λ k less. c.loop-client.invariant.done k (omega (arith, less, c.loop-client.auto, c.loop-client-test.false)))
