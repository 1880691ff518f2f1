-- Where things stand in a picture, in tenths of a pixel at its full width.
use Rattle.std.specs.Prelude.{ℕ, ◌+◌, ◌-◌, ◌*◌, ◌/◌, ◌%◌, max}
use Rattle.arb_draw.specs.declared.bar.ManagedCore.{ManagedCore}
use Rattle.arb_draw.specs.declared.layout.Layout.{Layout}

-- where the time begins, from the left
abbrev pub plot_left : ℕ
plot_left = 1500

-- how wide the time is
abbrev pub plot_width : ℕ
plot_width = 10300

-- the left edge of an entry of the legend
abbrev pub legend_x : (index : ℕ) → ℕ
legend_x index = 200 + 2900 * (index % 4)

-- the top of an entry of the legend: four stand side by side
abbrev pub legend_y : (index : ℕ) → ℕ
legend_y index = 480 + 230 * (index / 4)

-- the top of the key to the lines
abbrev pub key_y : Layout → ℕ
key_y layout = 500 + 230 * ((layout.apps + 3) / 4)

-- the top of the cores
abbrev pub cores_top : Layout → ℕ
cores_top layout = key_y layout + 480

-- the base line of what is said above the cores
abbrev pub axis_y : Layout → ℕ
axis_y layout = key_y layout + 430

-- the top of a core's row: sockets stand apart
abbrev pub row_y : Layout → ManagedCore → ℕ
row_y layout core = cores_top layout + 220 * core.position + 280 * (core.socket + 1)

-- the top of the panel of an application, counted among those that are drawn
abbrev pub panel_y : Layout → (index : ℕ) → ℕ
panel_y layout index = cores_top layout + (220 * layout.managed + 280 * layout.sockets) + 150 + 640 * index

-- the lowest line
abbrev pub bottom : Layout → ℕ
bottom layout = panel_y layout layout.apps

-- how high the picture is
abbrev pub height : Layout → ℕ
height layout = bottom layout + 150

-- the height of a value above a base line, where the highest value is `peak`
abbrev pub value_y : (base peak value : ℕ) → ℕ
value_y base peak value = base - value * 400 / max peak 1
