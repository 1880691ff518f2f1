-- The rule that the table of page words keeps.
use Rattle.std.specs.Prelude.{◌≡◌, ℕ, true, length}
use mathlib.Core.Option.{some}
use mathlib.Core.List.{IsPrefix}
use lib.ListN.{get_elem?}
use Rattle.atomic_table.specs.Table.{State}
use Rattle.arb_config.specs.Machine.{Machine}
use Rattle.arb_model.specs.Layout.{word_count}
use Rattle.arb_model.specs.History.{History, IsLegal}
use Rattle.arb_model.specs.Reading.{AreReadings}
use Rattle.arb_page.specs.declared.table.SeatView.{SeatView}

-- the view of the seat of a number fits the one history: what it has seen, and was told, begins that history; and who writes has the first seat, and has seen all of it
pub record Fits (h : History) (seat : ℕ) (v : SeatView) : Type 0 where
  pub seen : IsPrefix v.seen h
  pub told : IsPrefix v.told h
  pub writes : v.writes ≡ true → (seat ≡ 0) × (v.seen ≡ h)

-- there is one legal history; each word is its reading, and each view fits it
pub record ShowsOneHistory {S : Type 0} (m : Machine) (s : State S SeatView) : Type 0 where
  pub history : History
  pub legal : IsLegal m history
  pub count : length s.words ≡ word_count
  pub words : AreReadings s.words history
  pub views : (seat : ℕ) (v : SeatView) → get_elem? s.views seat ≡ some v → Fits history seat v
