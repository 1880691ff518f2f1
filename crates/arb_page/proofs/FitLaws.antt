-- What fits a history, as the history grows and one view changes.
use Rattle.std.proofs.Common.{◌≡◌, ◌≢◌, ℕ, List, set, true≢false, sym, inl, inr}
use mathlib.Core.Option.{some}
use mathlib.Core.List.{IsPrefix}
use lib.ListN.{get_elem?}
use Rattle.atomic_table.proofs.Lists.{at_set}
use Rattle.arb_model.specs.History.{History}
use Rattle.arb_model.proofs.PrefixLaws.{prefix_of_nil}
use Rattle.arb_page.specs.declared.table.SeatView.{SeatView}
use Rattle.arb_page.specs.Rule.{Fits}
use Rattle.arb_page.specs.Views.{reader_view}

-- the view of a reader that has seen a prefix of the history fits it
pub fits_reader : (h seen : History) (seat steps : ℕ) → IsPrefix seen h → Fits h seat (reader_view seen steps)
fits_reader h seen seat steps p = record { seen = p; told = prefix_of_nil h; writes = λ e. absurd (true≢false (sym e)) }

-- one seat has a new view, and all fit
pub fits_set : (h : History) (views : List SeatView) (seat : ℕ) (w : SeatView)
    → ((j : ℕ) (u : SeatView) → j ≢ seat → get_elem? views j ≡ some u → Fits h j u) → Fits h seat w
    → (j : ℕ) (u : SeatView) → get_elem? (set views seat w) j ≡ some u → Fits h j u
fits_set h views seat w others mine j u e =
    elim (at_set views seat j w u e) [
      | inl x ↦ rw (x.0, ← x.1) mine
      | inr x ↦ others j u x.0 x.1
    ]
