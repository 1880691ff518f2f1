-- Words that are the readings of a history stay so, as events are stored.
use Rattle.std.proofs.Common.{◌≡◌, ◌<◌, ◌≤◌, ℕ, List, [], ◌∷◌, ◌++◌, length, set, replicate, sym, ◌∙◌, subst, inl, inr, arith}
use Rattle.std.specs.Prelude.{slice_index}
use Rattle.std.proofs.lemmas.Bool.{cases_eq}
use Rattle.std.proofs.lemmas.List.{get_or-replicate, get_or-set_same, get_or-set_other, set-get_or}
use Rattle.arb_model.specs.declared.orders.Event.{Event}
use Rattle.arb_model.specs.Layout.{word_count}
use Rattle.arb_model.specs.History.{History}
use Rattle.arb_model.specs.Reading.{AreReadings, reading, word_written}
use Rattle.arb_model.proofs.ReadingLaws.{reading_empty, reading_other}

-- before all events all words read 0
pub zeros_are_readings : (n : ℕ) → word_count ≤ n → AreReadings (replicate n 0) []
zeros_are_readings n enough w low = get_or-replicate n w 0 0 (omega (arith, enough, low)) ∙ sym (reading_empty w)

-- a word that is stored as it was
pub same_are_readings : (words : List ℕ) (h : History) (i : ℕ) → AreReadings words h → AreReadings (set words i (slice_index words i)) h
same_are_readings words h i are = subst (λ (ws : List ℕ). AreReadings ws h) (sym (set-get_or words i 0)) are

-- the word that an event writes is stored
pub stored_are_readings : (words : List ℕ) (h : History) (i n : ℕ) (e : Event) → i ≡ word_written e → i < length words → n ≡ reading (h ++ e ∷ []) i → AreReadings words h → AreReadings (set words i n) (h ++ e ∷ [])
stored_are_readings words h i n e own low is are w lt =
    elim (cases_eq w i) [
      | inl same ↦ rw same (get_or-set_same words i n 0 low ∙ is)
      | inr apart ↦ get_or-set_other words i w n 0 apart ∙ (are w lt ∙ sym (reading_other h e w (λ x. apart (sym x ∙ sym own))))
    ]
