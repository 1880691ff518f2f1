use Rattle.std.proofs.Common.{◌<◌, ◌≢◌, ◌∙◌, length, sym, arith, get_or-set_other, get_or-set_same, below_more}
use Rattle.std.proofs.lemmas.List.{ext_get_or, length-set}
use Rattle.arb_c.proofs.wire.request_of.Goals as goal

pub loop-level-preserved : goal.loop-level-preserved
loop-level-preserved c =
    let level = c.loop-level.level in
    let cores = c.loop-level.cores in (
      c.loop-level.invariant.0,
      length-set cores level c.entry.result ∙ c.loop-level.invariant.1,
      below_more _ _
          (λ k h. let ne : k ≢ level = omega arith in rw get_or-set_other (c.loop-level.invariant.2 k h))
          (let lt : level < length cores = omega (arith, c.loop-level.invariant.1) in rw get_or-set_same c.entry.ensures.value),
    )

pub returns : goal.returns
returns c =
    ext_get_or 0 c.loop-level.cores c.args.request (c.loop-level.invariant.1 ∙ sym c.loop-level.invariant.0)
    (λ k h. c.loop-level.invariant.2 k (omega (arith, c.loop-level.invariant.1)))
