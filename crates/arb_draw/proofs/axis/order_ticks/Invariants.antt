use Rattle.std.proofs.Common.{◌≡◌}
use Rattle.std.specs.List.{flat_map, range_with_len}
use Rattle.arb_draw.specs.Axis.{tick_at}
use Rattle.arb_draw.proofs.axis.order_ticks.Given as goal

-- the orders before this one have their labels
abbrev pub invariant-loop-index : goal.invariant-loop-index
invariant-loop-index l = l.ticks.items ≡ flat_map (tick_at l.first l.count) (range_with_len 0 l.index)
