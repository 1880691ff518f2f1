-- The texts of faults.
use Rattle.std.specs.Prelude.{ℕ, List, ◌++◌, codes, decimal}
use Rattle.arb_script.specs.FaultText.{run_fault_text}
use Rattle.arb_draw.specs.declared.choice.ChoiceFault.{ChoiceFault}
use Rattle.arb_draw.specs.declared.choice.ChoiceFault.TheVariants.{NoOrder, Backwards, TooMany}
use Rattle.arb_draw.specs.declared.fault.DrawFault.{DrawFault}
use Rattle.arb_draw.specs.declared.fault.DrawFault.TheVariants.{Run, Choice, TooManyBars, Memory}
use Rattle.arb_draw.specs.Limits.{max_bars, max_orders}

-- why orders can't be drawn
abbrev pub choice_fault_text : ChoiceFault → List ℕ
choice_fault_text (NoOrder order orders) = codes "no order " ++ decimal order ++ codes ": the script has " ++ decimal orders
choice_fault_text (Backwards from to) = codes "--from " ++ decimal from ++ codes " is above --to " ++ decimal to
choice_fault_text (TooMany orders) =
    decimal orders ++ codes " orders are too many for a picture, which shows " ++ decimal max_orders ++ codes ": choose fewer by --from and --to"

-- why there is no picture
abbrev pub draw_fault_text : DrawFault → List ℕ
draw_fault_text (Run fault) = run_fault_text fault
draw_fault_text (Choice fault) = choice_fault_text fault
draw_fault_text (TooManyBars bars) =
    decimal bars ++ codes " bars are too many for a picture, which shows " ++ decimal max_bars ++ codes ": choose fewer orders by --from and --to"
draw_fault_text Memory = codes "out of memory"
