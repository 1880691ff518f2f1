-- What a step on the table tells: of the machine, the step, the seat before, the number found, and the seat after.
use Rattle.std.specs.Prelude.{◌≡◌, ℕ, ◌+◌, ◌++◌}
use mathlib.Core.List.{IsPrefix}
use Rattle.atomic_table.specs.Table.{Me, Step}
use Rattle.arb_config.specs.Machine.{Machine}
use Rattle.arb_model.specs.History.{History, IsLegal}
use Rattle.arb_model.specs.Reading.{reading}
use Rattle.arb_page.specs.declared.table.SeatView.{SeatView}
use Rattle.arb_page.specs.Views.{reader_view, writer_view}

-- a load by a reader: it has seen the history so far, with all that it had seen and was told, and the number is the word's reading
pub record Looks {S : Type 0} (m : Machine) (s : Step S) (me : Me S SeatView) (found : ℕ) (after : Me S SeatView) : Type 0 where
  pub seat : after ≡ (reader_view after.0.seen (me.0.steps + 1), me.1)
  pub value : found ≡ reading after.0.seen s.word
  pub later : IsPrefix me.0.seen after.0.seen
  pub told : IsPrefix me.0.told after.0.seen
  pub legal : IsLegal m after.0.seen

-- a load by the writer: it had seen what it was told
pub record Checks {S : Type 0} (s : Step S) (me : Me S SeatView) (found : ℕ) (after : Me S SeatView) : Type 0 where
  pub seat : after ≡ (writer_view me.0.seen (me.0.steps + 1), me.1)
  pub told : IsPrefix me.0.told me.0.seen

-- a store by the writer: the history goes on with these events
abbrev pub Appends : {S : Type 0} → History → Step S → Me S SeatView → ℕ → Me S SeatView → Type 0
Appends more s me stored after = after ≡ (writer_view (me.0.seen ++ more) (me.0.steps + 1), me.1)
