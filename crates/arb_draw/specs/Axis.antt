-- Where orders and moments stand on the way to the right.
use Rattle.std.specs.Prelude.{ℕ, ◌+◌, ◌-◌, ◌*◌, ◌/◌, ◌%◌, ◌==◌, List, [], ◌∷◌, ◌++◌, if◌then◌else◌, nat_le, length, map, max, min, slice_index}
use Rattle.std.specs.List.{flat_map, range_with_len}
use Rattle.arb_draw.specs.declared.axis.Tick.{Tick}
use Rattle.arb_draw.specs.declared.scale.Scale.{Scale}
use Rattle.arb_draw.specs.declared.scale.Scale.TheVariants.{Orders, Time}
use Rattle.arb_draw.specs.Frames.{Shown}
use Rattle.arb_draw.specs.Layout.{plot_left, plot_width}

-- the place of an order, counted from the first drawn one, where all of so many are as wide
abbrev pub order_x : (index count : ℕ) → ℕ
order_x index count = plot_left + index * plot_width / max count 1

-- the place of a moment so long after the first, where so much passes in all; after the last moment there is a sixteenth more
abbrev pub moment_x : (elapsed passed : ℕ) → ℕ
moment_x elapsed passed = plot_left + min (elapsed * plot_width / (passed + passed / 16 + 1)) plot_width

-- the clock after an order, counted from the first drawn one
abbrev pub clock_at : List Shown → (index : ℕ) → ℕ
clock_at frames index = slice_index (map (λ frame. frame.clock) frames) index

-- how long it is from the first drawn order to the last
abbrev pub passed : List Shown → ℕ
passed frames = clock_at frames (length frames - 1) - clock_at frames 0

-- the place of each drawn order by its moment, and the right edge
abbrev pub time_columns : List Shown → List ℕ
time_columns frames = map (λ frame. moment_x (frame.clock - clock_at frames 0) (passed frames)) frames ++ (plot_left + plot_width) ∷ []

-- the place of each drawn order, and the right edge
abbrev pub columns : Scale → List Shown → List ℕ
columns Orders frames = map (λ index. order_x index (length frames)) (range_with_len 0 (length frames + 1))
columns Time frames = time_columns frames

-- of how many orders one is labelled, so that there are twenty labels at most
abbrev pub label_step : (count : ℕ) → ℕ
label_step count =
    if nat_le count 20 then 1
    else (if nat_le count 40 then 2
    else (if nat_le count 100 then 5
    else (if nat_le count 200 then 10
    else (if nat_le count 400 then 20
    else (if nat_le count 1000 then 50
    else 100)))))

-- the label of an order, where it has one
abbrev pub tick_at : (first count index : ℕ) → List Tick
tick_at first count index =
    if (first + index) % label_step count == 0
    then record { label = first + index; x = order_x index count } ∷ []
    else []

-- the labels of so many orders
abbrev pub order_ticks : (first count : ℕ) → List Tick
order_ticks first count = flat_map (tick_at first count) (range_with_len 0 count)

-- the label of a moment so long after the first
abbrev pub tick_after : (start passed elapsed : ℕ) → Tick
tick_after start passed elapsed = record { label = start + elapsed; x = moment_x elapsed passed }

-- how long after the first moment the labelled ones are
abbrev pub elapsed : (passed : ℕ) → List ℕ
elapsed passed = 0 ∷ (passed / 4) ∷ (passed / 2) ∷ (passed / 2 + passed / 4) ∷ passed ∷ []

-- the labels below the orders or moments
abbrev pub ticks : Scale → (first : ℕ) → List Shown → List Tick
ticks Orders first frames = order_ticks first (length frames)
ticks Time first frames = map (tick_after (clock_at frames 0) (passed frames)) (elapsed (passed frames))
