use Rattle.std.proofs.Common.{◌≡◌, slice_index, drop}
use Rattle.arb_play.specs.Scripts.{full_in}
use Rattle.arb_play.proofs.full.any_full.Given as goal

-- no order before this one is full
abbrev pub invariant-loop-index : goal.invariant-loop-index
invariant-loop-index l = full_in (slice_index l.full_from) 0 l.script ≡ full_in (slice_index l.full_from) l.index (drop l.index l.script)
