use Rattle.std.proofs.Common.{◌∙◌, arith, sym}
use Rattle.arb_config.proofs.Repeats.{first_repeated-none, first_repeated-some}
use Rattle.arb_config.proofs.passes.first_repeated.Goals as goal

pub returns-then-contains : goal.returns-then-contains
returns-then-contains c =
    sym (first_repeated-some c.args.cores.now c.loop-index.index (omega arith) c.loop-index.invariant (sym c.contains.ensures.value ∙ c.if-contains.true))

pub returns : goal.returns
returns c =
    sym (first_repeated-none c.args.cores.now (λ k h. c.loop-index.invariant k (omega arith)))
