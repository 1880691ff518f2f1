use Rattle.arb_seats.proofs.Words.{nat_tests, common_steps, ℕ, ◌<◌, arith, slice_index, length, le-ltb, get_or_default, all_threads}
use Rattle.std.proofs.lemmas.List.Filters.{FiltersInPlace-more_no, FiltersInPlace-more_set}
use Rattle.arb_seats.proofs.waiting.close_gaps.Goals as goal
use Rattle.arb_seats.proofs.waiting.close_gaps.Goals.{then-thread-lt-GAP, else-thread-lt-GAP}

pub loop-slot-preserved : goal.loop-slot-preserved
loop-slot-preserved c =
    let x : ℕ = slice_index c.loop-slot.slots c.loop-slot.slot in
    let lt : c.loop-slot.slot < length c.loop-slot.slots = omega arith in
    elim c.if-thread-lt-GAP.branch [
      | then-thread-lt-GAP w ↦ grind (arith, nat_tests, common_steps, FiltersInPlace-more_set)
      | else-thread-lt-GAP w ↦ rw (w.slots-is, w.kept-is)
          (FiltersInPlace-more_no c.loop-slot.invariant lt (le-ltb x all_threads w.if-thread-lt-GAP.false) (get_or_default c.loop-slot.slots c.loop-slot.slot 0 x lt))
    ]
