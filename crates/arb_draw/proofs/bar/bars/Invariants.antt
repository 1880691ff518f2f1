use Rattle.std.proofs.Common.{◌≡◌}
use Rattle.std.specs.List.{flat_map, range_with_len}
use Rattle.arb_draw.specs.Bars.{bars_at}
use Rattle.arb_draw.proofs.bar.bars.Given as goal

-- the bars of the positions before this one are there
abbrev pub invariant-loop-position : goal.invariant-loop-position
invariant-loop-position l = l.bars.items ≡ flat_map (bars_at l.topology l.first l.frames) (range_with_len 0 l.position)
