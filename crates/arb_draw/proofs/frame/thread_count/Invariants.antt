use Rattle.std.proofs.Common.{◌≡◌, ◌+◌, ◌*◌, ◌≤◌}
use Rattle.std.specs.Prelude.{nat_lt, slice_index}
use Rattle.arb_model.specs.Limits.{threads}
use Rattle.arb_model.specs.Lists.{count_below}
use Rattle.arb_draw.proofs.frame.thread_count.Given as goal

-- the threads before this one are counted
abbrev pub invariant-loop-thread : goal.invariant-loop-thread
invariant-loop-thread l = record {
  count : l.count ≡ count_below (λ thread. nat_lt 0 (slice_index l.core.standing.counts (threads * l.app + thread))) l.thread;
  small : l.count ≤ l.thread;
}
