-- Words for moving overdue threads one after another.
use Rattle.std.specs.Prelude.{ℕ, Option, Some, None, true, if◌then◌else◌, slice_set}
use Rattle.arb_model.specs.declared.holders.Holder.{Holder}
use Rattle.arb_model.specs.Changes.{is_overdue}
use Rattle.arb_model.specs.Standing.{Seats, holder_at}

-- the thread on a core is moved if it is overdue
abbrev pub moved_if : (grace moment position : ℕ) → Option Holder → Seats → Seats
moved_if grace moment position None s = s
moved_if grace moment position (Some holder) s =
    if is_overdue grace moment holder
    then record s { cores = slice_set s.cores position None; moved = slice_set s.moved holder.thread true }
    else s

-- the same of the core at a position
abbrev pub overdue_at : (grace moment position : ℕ) → Seats → Seats
overdue_at grace moment position s = moved_if grace moment position (holder_at s.cores position) s
