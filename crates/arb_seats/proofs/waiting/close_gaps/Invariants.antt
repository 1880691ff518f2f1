use Rattle.arb_seats.specs.Slots.{is_thread}
use Rattle.std.proofs.lemmas.List.Filters.{FiltersInPlace}
use Rattle.arb_seats.proofs.waiting.close_gaps.Given as goal

abbrev pub invariant-loop-slot : goal.invariant-loop-slot
invariant-loop-slot l = FiltersInPlace is_thread l.initial.slots l.slots l.kept l.slot
