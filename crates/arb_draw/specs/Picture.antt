-- The picture of a run, and what holds of an input when there is none.
use Rattle.std.specs.Prelude.{◌≡◌, ℕ, ◌+◌, ◌-◌, ◌<◌, ◌≤◌, List, Ok, Err, length, take}
use Rattle.arb_config.specs.Machine.{Machine}
use Rattle.arb_script.specs.declared.given.ClientOrder.{ClientOrder}
use Rattle.arb_script.specs.Report.{standing_after}
use Rattle.arb_script.specs.Run.{IsAccepted, IsRefused}
use Rattle.arb_draw.specs.declared.bar.Bar.{Bar}
use Rattle.arb_draw.specs.declared.cell.AppThreads.{AppThreads}
use Rattle.arb_draw.specs.declared.choice.Choice.{Choice as TheChoice}
use Rattle.arb_draw.specs.declared.choice.Orders.{Orders}
use Rattle.arb_draw.specs.declared.fault.DrawFault.{DrawFault}
use Rattle.arb_draw.specs.declared.fault.DrawFault.TheVariants.{Run, Choice, TooManyBars, Memory}
use Rattle.arb_draw.specs.declared.scale.Scale.{Scale}
use Rattle.arb_draw.specs.declared.shape.Shape.{Shape}
use Rattle.arb_draw.specs.Bars.{bars_of}
use Rattle.arb_draw.specs.Choice.{chosen}
use Rattle.arb_draw.specs.Frames.{Shown, apps_of, frames_of}
use Rattle.arb_draw.specs.Limits.{max_bars}
use Rattle.arb_draw.specs.ShapeText.{text_of}
use Rattle.arb_draw.specs.Shapes.{shapes_of}

-- what is drawn of these orders of a script
abbrev pub frames_at : Machine → (script : List ClientOrder) → Orders → List Shown
frames_at m script orders = frames_of m script orders.first orders.count

-- the applications of which a thread gave an order by the last of these
abbrev pub apps_after : Machine → (script : List ClientOrder) → Orders → List AppThreads
apps_after m script orders = apps_of (standing_after m (take (orders.first - 1 + orders.count) script))

-- the bars of these orders of a script
unfoldable pub run_bars : Machine → (script : List ClientOrder) → Orders → List Bar
run_bars m script orders = bars_of m orders.first (frames_at m script orders)

-- the shapes of these orders of a script
abbrev pub run_shapes : Machine → Scale → (script : List ClientOrder) → Orders → List Shape
run_shapes m scale script orders =
    shapes_of m scale orders.first (frames_at m script orders) (apps_after m script orders) (run_bars m script orders)

-- the picture of these orders of a script: the text of their shapes
unfoldable pub picture : Machine → Scale → (script : List ClientOrder) → Orders → List ℕ
picture m scale script orders = text_of (run_shapes m scale script orders)

-- the input is a script, and it has the orders that were chosen
pub record HasOrders (m : Machine) (choice : TheChoice) (input : List ℕ) : Type 0 where
  pub script : List ClientOrder
  pub accepted : IsAccepted script input
  pub orders : Orders
  pub chosen : chosen choice.from choice.to (length script) ≡ Ok orders

-- an input that can be drawn: they have no more bars than a picture may have
pub record CanBeDrawn (m : Machine) (choice : TheChoice) (input : List ℕ) : Type 0 where
  pub has : HasOrders m choice input
  pub few : length (run_bars m has.script has.orders) ≤ max_bars

-- the fault is in the input and the choice; a failed call of the writer and a failed allocation say nothing of them
abbrev pub IsUndrawn : (m : Machine) → TheChoice → DrawFault → (input : List ℕ) → Type 0
IsUndrawn m choice (Run fault) input = IsRefused fault input
IsUndrawn m choice (Choice fault) input =
    (script : List ClientOrder) × IsAccepted script input × (chosen choice.from choice.to (length script) ≡ Err fault)
IsUndrawn m choice (TooManyBars bars) input =
    (has : HasOrders m choice input) × (bars ≡ length (run_bars m has.script has.orders)) × (max_bars < bars)
IsUndrawn m choice Memory input = Unit {0}
