-- The shapes of a picture.
use Rattle.std.specs.Prelude.{ℕ, ◌+◌, ◌-◌, ◌==◌, ◌||◌, List, [], ◌∷◌, ◌++◌, Bool, true, false, zero, suc, not, nat_lt, if◌then◌else◌, map, max, length, slice_index}
use Rattle.std.specs.List.{enumerate_from, flat_map, range_with_len}
use Rattle.arb_config.specs.Machine.{Machine, cores_of, socket_by_position}
use Rattle.arb_draw.specs.declared.axis.Tick.{Tick}
use Rattle.arb_draw.specs.declared.bar.Bar.{Bar}
use Rattle.arb_draw.specs.declared.cell.AppThreads.{AppThreads}
use Rattle.arb_draw.specs.declared.layout.Layout.{Layout}
use Rattle.arb_draw.specs.declared.measure.Measure.{Measure}
use Rattle.arb_draw.specs.declared.measure.Measure.TheVariants.{Waits, Wants, Due, Owns}
use Rattle.arb_draw.specs.declared.part.Part.{Part}
use Rattle.arb_draw.specs.declared.part.Part.TheVariants.{Held, Asked}
use Rattle.arb_draw.specs.declared.scale.Scale.{Scale}
use Rattle.arb_draw.specs.declared.shape.Shape.{Shape}
use Rattle.arb_draw.specs.declared.shape.Shape.TheVariants.{Begin, Swatch, Key, Axis, Tick as tick_at_x, Socket, Row, Bar as placed_bar, Name, Panel, Line, Step, LineEnd, AreaEnd, End}
use Rattle.arb_draw.specs.Axis.{columns, ticks}
use Rattle.arb_draw.specs.Bars.{core_at}
use Rattle.arb_draw.specs.Frames.{Shown}
use Rattle.arb_draw.specs.Layout.{axis_y, bottom, cores_top, height, key_y, legend_x, legend_y, panel_y, plot_left, plot_width, row_y, value_y}
use Rattle.arb_draw.specs.Measures.{greatest, values_of}

-- how much is drawn
abbrev pub layout_of : Machine → (apps : List AppThreads) → Layout
layout_of m apps = record { managed = length (cores_of m); sockets = length m.sockets; apps = length apps }

-- the legend: an entry for each application
abbrev pub legend : (apps : List AppThreads) → List Shape
legend apps = map (λ entry. Swatch entry.1.app entry.1.threads (legend_x entry.0) (legend_y entry.0)) (enumerate_from 0 apps)

-- an order or a moment, with its line through all rows and panels
abbrev pub tick_shape : Layout → Tick → Shape
tick_shape layout tick = tick_at_x tick.label tick.x (cores_top layout) (bottom layout)

-- whether the core at a position is the first of its socket
abbrev pub heads_socket : Machine → (position : ℕ) → Bool
heads_socket m zero = true
heads_socket m (suc position) = not (slice_index (socket_by_position m) position == slice_index (socket_by_position m) (suc position))

-- the row of the core at a position, with its socket's name where it is the first there
abbrev pub row_shapes : Machine → Layout → (position : ℕ) → List Shape
row_shapes m layout position =
    let core = core_at m position in
    (if heads_socket m position then Socket core.socket (row_y layout core) ∷ [] else [])
    ++ Row core.number (row_y layout core) ∷ []

-- the rows of all managed cores
abbrev pub all_rows : Machine → Layout → List Shape
all_rows m layout = flat_map (row_shapes m layout) (range_with_len 0 (length (cores_of m)))

-- the left edge of a bar, where the first drawn order is `first` and `xs` has the place of each
abbrev pub bar_x : (first : ℕ) → (xs : List ℕ) → Bar → ℕ
bar_x first xs bar = slice_index xs (bar.from - first)

-- how wide a bar is
abbrev pub bar_width : (first : ℕ) → (xs : List ℕ) → Bar → ℕ
bar_width first xs bar = slice_index xs (bar.to - first) - bar_x first xs bar

-- a bar, in the row of its core
abbrev pub bar_shape : Layout → (first : ℕ) → (xs : List ℕ) → Bar → Shape
bar_shape layout first xs bar = placed_bar bar (bar_x first xs bar) (row_y layout bar.core) (bar_width first xs bar)

-- whether a bar shows a part that is asked back
abbrev pub is_part : Part → Bool
is_part Held = false
is_part Asked = true

-- the name of a bar's thread, where the bar is wide enough and no part of another
abbrev pub name_shapes : Layout → (first : ℕ) → (xs : List ℕ) → Bar → List Shape
name_shapes layout first xs bar =
    if is_part bar.part || nat_lt (bar_width first xs bar) 400
    then []
    else Name bar.thread (bar_x first xs bar) (row_y layout bar.core) ∷ []

-- the names of the threads on bars
abbrev pub all_names : Layout → (first : ℕ) → (xs : List ℕ) → List Bar → List Shape
all_names layout first xs bars = flat_map (name_shapes layout first xs) bars

-- whether the value at an index isn't the one before it
abbrev pub changes : (values : List ℕ) → (index : ℕ) → Bool
changes values zero = true
changes values (suc index) = not (slice_index values (suc index) == slice_index values index)

-- a step to a value, where it isn't the one before it
abbrev pub step_at : (xs values : List ℕ) → (base peak index : ℕ) → List Shape
step_at xs values base peak index =
    if changes values index then Step (slice_index xs index) (value_y base peak (slice_index values index)) ∷ [] else []

-- the steps of a line
abbrev pub line_steps : (xs values : List ℕ) → (base peak : ℕ) → List Shape
line_steps xs values base peak = flat_map (step_at xs values base peak) (range_with_len 0 (length values))

-- the end of a line of steps: the one of waiting threads is filled
abbrev pub line_end : Measure → (base : ℕ) → Shape
line_end Waits base = AreaEnd (plot_left + plot_width) base
line_end measure base = LineEnd (plot_left + plot_width)

-- a line of steps
abbrev pub line_shapes : Measure → (xs values : List ℕ) → (base peak : ℕ) → List Shape
line_shapes measure xs values base peak = (Line measure base ∷ line_steps xs values base peak) ++ line_end measure base ∷ []

-- the highest value of an application's panel
abbrev pub peak_of : (frames : List Shown) → (app : ℕ) → ℕ
peak_of frames app =
    max (max (max (greatest (values_of frames Waits app)) (greatest (values_of frames Wants app))) (greatest (values_of frames Due app))) (greatest (values_of frames Owns app))

-- a line of an application's panel
abbrev pub measure_shapes : (xs : List ℕ) → (frames : List Shown) → (app y : ℕ) → Measure → List Shape
measure_shapes xs frames app y measure = line_shapes measure xs (values_of frames measure app) (y + 560) (peak_of frames app)

-- the panel of an application, whose top is y
abbrev pub panel_shapes : (xs : List ℕ) → (frames : List Shown) → (app y : ℕ) → List Shape
panel_shapes xs frames app y =
    Panel app (peak_of frames app) y ∷ flat_map (measure_shapes xs frames app y) (Waits ∷ Wants ∷ Due ∷ Owns ∷ [])

-- the panels of all applications
abbrev pub all_panels : Layout → (xs : List ℕ) → (frames : List Shown) → (apps : List AppThreads) → List Shape
all_panels layout xs frames apps = flat_map (λ entry. panel_shapes xs frames entry.1.app (panel_y layout entry.0)) (enumerate_from 0 apps)

-- the shapes of a run: the legend, the key, the rows of the cores with the labels and the bars, and the panels
abbrev pub shapes_of : Machine → Scale → (first : ℕ) → (frames : List Shown) → (apps : List AppThreads) → (bars : List Bar) → List Shape
shapes_of m scale first frames apps bars =
    let layout = layout_of m apps in
    let xs = columns scale frames in
    Begin first (first + length frames - 1) (height layout) ∷ []
    ++ legend apps
    ++ Key (key_y layout) ∷ []
    ++ Axis scale (axis_y layout) ∷ []
    ++ all_rows m layout
    ++ map (tick_shape layout) (ticks scale first frames)
    ++ map (bar_shape layout first xs) bars
    ++ all_names layout first xs bars
    ++ all_panels layout xs frames apps
    ++ End ∷ []
