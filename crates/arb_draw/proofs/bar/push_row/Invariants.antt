use Rattle.std.proofs.Common.{◌≡◌, ◌++◌}
use Rattle.std.specs.List.{flat_map, range_with_len}
use Rattle.arb_draw.specs.Bars.{bars_from}
use Rattle.arb_draw.proofs.bar.push_row.Given as goal

-- the bars that begin before this index are there
abbrev pub invariant-loop-index : goal.invariant-loop-index
invariant-loop-index l = l.bars.items ≡ l.initial.bars.items ++ flat_map (bars_from l.part l.core l.first l.row) (range_with_len 0 l.index)
