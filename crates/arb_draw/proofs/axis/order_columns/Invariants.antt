use Rattle.std.proofs.Common.{◌≡◌, map}
use Rattle.std.specs.List.{range_with_len}
use Rattle.arb_draw.specs.Axis.{order_x}
use Rattle.arb_draw.proofs.axis.order_columns.Given as goal

-- the orders before this one have their places
abbrev pub invariant-loop-index : goal.invariant-loop-index
invariant-loop-index l = l.xs.items ≡ map (λ index. order_x index l.count) (range_with_len 0 l.index)
