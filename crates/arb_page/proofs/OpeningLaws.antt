-- The rule holds at the start: all words are 0.
use Rattle.std.proofs.Common.{◌≡◌, ℕ, zero, suc, [], ◌∷◌, replicate, refl, sym, subst, arith}
use Rattle.std.proofs.lemmas.List.{length-replicate}
use mathlib.Core.Option.{some, some-ne-none, some-injective}
use lib.ListN.{get_elem?}
use Rattle.atomic_table.specs.Table.{opening}
use Rattle.arb_config.specs.Machine.{Machine}
use Rattle.arb_model.specs.Layout.{word_count}
use Rattle.arb_model.proofs.LegalLaws.{legal_empty}
use Rattle.arb_model.proofs.MemoryLaws.{zeros_are_readings}
use Rattle.arb_model.proofs.PrefixLaws.{prefix_self}
use Rattle.arb_page.specs.declared.table.SeatView.{SeatView}
use Rattle.arb_page.specs.Rule.{Fits, ShowsOneHistory}
use Rattle.arb_page.specs.Views.{writer_view}

-- the rule holds of the first table
pub shows_nothing : {S : Type 0} (m : Machine) → ShowsOneHistory m (opening {S = S} (replicate word_count 0) [] (writer_view [] 0))
shows_nothing {S} m = record {
  history = [];
  legal = legal_empty m;
  count = length-replicate {A = ℕ} word_count 0;
  words = zeros_are_readings word_count (omega arith);
  views = one;
}
  where
    one : (seat : ℕ) (v : SeatView) → get_elem? (writer_view [] 0 ∷ []) seat ≡ some v → Fits [] seat v
    one zero v e = subst (Fits [] 0) (some-injective _ _ e) (record { seen = prefix_self []; told = prefix_self []; writes = λ _. (refl, refl) })
    one (suc seat) v e = absurd (some-ne-none v (sym e))
