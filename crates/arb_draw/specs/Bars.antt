-- The bars of a picture: each is one span in which one thread has a core, or a part of it in which the core is asked back.
use Rattle.std.specs.Prelude.{ℕ, ◌+◌, List, ◌++◌, Option, Some, None, if◌then◌else◌, map, length, slice_index, slice_index_or}
use Rattle.std.specs.List.{flat_map, range_with_len}
use Rattle.std.specs.Option.{option_to_list}
use Rattle.arb_config.specs.Machine.{Machine, cores_of, socket_by_position}
use Rattle.arb_draw.specs.declared.bar.Bar.{Bar}
use Rattle.arb_draw.specs.declared.bar.ManagedCore.{ManagedCore}
use Rattle.arb_draw.specs.declared.cell.Cell.{Cell}
use Rattle.arb_draw.specs.declared.part.Part.{Part}
use Rattle.arb_draw.specs.declared.part.Part.TheVariants.{Held, Asked}
use Rattle.arb_draw.specs.declared.span.Span.{Span}
use Rattle.arb_draw.specs.Frames.{Shown}
use Rattle.arb_draw.specs.Spans.{run_at}

-- who has a core; or who has it while it is asked back
abbrev pub owner_in : Part → Option Cell → Option ℕ
owner_in part None = None
owner_in Held (Some cell) = Some cell.thread
owner_in Asked (Some cell) = if cell.asked then Some cell.thread else None

-- the row of a position: who has the core there after each drawn order
abbrev pub row_of : (frames : List Shown) → Part → (position : ℕ) → List (Option ℕ)
row_of frames part position = map (λ frame. owner_in part (slice_index_or frame.cells position None)) frames

-- the core at a position
abbrev pub core_at : Machine → (position : ℕ) → ManagedCore
core_at m position =
    record {
      position = position;
      socket = slice_index (socket_by_position m) position;
      number = slice_index (cores_of m) position;
    }

-- the bar of a run, where the row's first order has this number
abbrev pub bar_of : Part → ManagedCore → (first : ℕ) → Span → Bar
bar_of part core first span =
    record { core = core; thread = span.thread; from = first + span.from; to = first + span.to; part = part }

-- the bar of the run that begins at an index, if one does
abbrev pub bars_from : Part → ManagedCore → (first : ℕ) → (row : List (Option ℕ)) → (index : ℕ) → List Bar
bars_from part core first row index = map (bar_of part core first) (option_to_list (run_at row index))

-- the bars of a row: one for each longest run
abbrev pub part_bars : Part → ManagedCore → (first : ℕ) → (row : List (Option ℕ)) → List Bar
part_bars part core first row = flat_map (bars_from part core first row) (range_with_len 0 (length row))

-- the bars of a position: those of its spans, and of the parts that are asked back
abbrev pub bars_at : Machine → (first : ℕ) → (frames : List Shown) → (position : ℕ) → List Bar
bars_at m first frames position =
    part_bars Held (core_at m position) first (row_of frames Held position)
    ++ part_bars Asked (core_at m position) first (row_of frames Asked position)

-- the bars of all managed cores, in order of position
abbrev pub bars_of : Machine → (first : ℕ) → (frames : List Shown) → List Bar
bars_of m first frames = flat_map (bars_at m first frames) (range_with_len 0 (length (cores_of m)))
