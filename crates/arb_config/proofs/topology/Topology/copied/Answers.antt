use Rattle.std.proofs.Common.{arith}
use Rattle.arb_config.proofs.Parts.{length-part-le}
use Rattle.arb_config.proofs.topology.Topology.copied.Goals as goal

pub fixed_lists-requires-clause-short : goal.fixed_lists-requires-clause-short
fixed_lists-requires-clause-short c =
    rw c.as_slice.ensures.value (λ k d h. omega (arith, length-part-le (λ list. list.items) c.self.inside.sockets.items k d h, c.self.invariant.machine.few_managed))
