use Rattle.std.proofs.Common.{◌≡◌, map, take}
use Rattle.arb_config.proofs.fixed.fixed_lists.Given as goal

abbrev pub invariant-loop-list : goal.invariant-loop-list
invariant-loop-list g l = map (λ list. list.items) l.fixed_lists.items ≡ map g.L.AsSlice.items (take l.list-index l.lists)
