-- What the seat of a writer, a reader or a note knows: its view.
use Rattle.std.specs.Prelude.{ℕ, ◌+◌, true, false, []}
use Rattle.arb_model.specs.History.{History}
use Rattle.arb_page.specs.declared.table.SeatView.{SeatView}
use Rattle.arb_page.specs.Seen.{Observer}

-- the view of the one writer, after so many steps
abbrev pub writer_view : History → ℕ → SeatView
writer_view h steps = record { writes = true; seen = h; told = []; steps = steps }

-- the view of a reader or a note
abbrev pub reader_view : History → ℕ → SeatView
reader_view h steps = record { writes = false; seen = h; told = []; steps = steps }

-- the same view after one step more
abbrev pub stepped : SeatView → SeatView
stepped v = record v { steps = v.steps + 1 }

-- a seat takes in another, by a step: what that one has seen is what it was told, until its next load
abbrev pub told_by : SeatView → SeatView → SeatView
told_by v w = record { writes = v.writes; seen = v.seen; told = w.seen; steps = v.steps + 1 }

-- what contracts see of a view
abbrev pub observer_of : SeatView → Observer
observer_of v = record { seen = v.seen; steps = v.steps }
