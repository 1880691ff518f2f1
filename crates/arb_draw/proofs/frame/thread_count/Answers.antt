use Rattle.std.proofs.Common.{◌≡◌, ◌+◌, ◌*◌, ap, ◌∙◌, arith}
use Rattle.std.specs.Prelude.{nat_lt, slice_index}
use Rattle.arb_model.specs.Limits.{threads}
use Rattle.arb_model.specs.Lists.{count_below}
use Rattle.arb_draw.specs.Frames.{thread_count}
use Rattle.arb_draw.proofs.frame.thread_count.Goals as goal

pub returns : goal.returns
unfolding thread_count
returns c =
    let at_end : c.loop-thread.thread ≡ threads = omega arith in
    c.loop-thread.invariant.count ∙ ap (count_below (λ thread. nat_lt 0 (slice_index c.args.core.now.standing.counts (threads * c.args.app + thread)))) at_end
