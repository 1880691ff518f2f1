-- A place word that is read was the thread's at a point of the history, whatever the limit on orders.
use Rattle.std.proofs.Common.{◌≡◌, ℕ, ◌<◌, [], ◌∷◌, ◌++◌, Option, Some, refl, arith, sym, ap, ◌∙◌, subst, inl, inr, append_assoc, slice_index}
use Rattle.std.specs.Prelude.{unwrap_or}
use Rattle.std.proofs.lemmas.Bool.{cases_eq}
use Rattle.std.proofs.lemmas.List.{append-nil, get_or-replicate}
use Rattle.arb_config.specs.Machine.{IsMachine, Machine}
use Rattle.arb_model.specs.declared.orders.Event.{Event}
use Rattle.arb_model.specs.declared.orders.Event.TheVariants.{Entered, Posted}
use Rattle.arb_model.specs.declared.orders.Place.{Place}
use Rattle.arb_model.specs.declared.orders.Place.TheVariants.{Unmanaged}
use Rattle.arb_model.specs.Consistent.{IsConsistent}
use Rattle.arb_model.specs.Decoding.{PlacesAreDecoded, place_in_word}
use Rattle.arb_model.specs.History.{History, IsLegal, MayHappen, State, beginning, state_after}
use Rattle.arb_model.specs.HistoryLaws.{WasAt}
use Rattle.arb_model.specs.Layout.{place_index, word_count}
use Rattle.arb_model.specs.Limits.{all_threads}
use Rattle.arb_model.specs.Reading.{reading}
use Rattle.arb_model.specs.Step.{place_of}
use Rattle.arb_model.specs.Words.{place_word, word_of}
use Rattle.arb_model.proofs.LegalLaws.{legal_allowed, legal_prefix}
use Rattle.arb_model.proofs.OpeningLaws.{opening_settled}
use Rattle.arb_model.proofs.PrefixLaws.{prefix_more}
use Rattle.arb_model.proofs.ReadingLaws.{reading_empty, reading_other, reading_posted}
use Rattle.arb_model.proofs.SettlingLaws.{follows_by_state, states_begin}
use Rattle.arb_model.proofs.WordsLaws.{none_stale, word_of_place}
use Rattle.arb_common.specs.Limits.{IsMachineOfAnyLimit, with_limit}
use Rattle.arb_common.proofs.LimitLaws.{leads, machine_of_any_limit}

-- a place word isn't word 0
not_first : (thread : ℕ) → place_index thread ≡ 0 → ⊥
not_first thread e = absurd (omega (arith, e))

-- before all events
was_first : (m : Machine) (thread : ℕ) → thread < all_threads → WasAt m [] thread (reading [] (place_index thread))
was_first m thread low =
    let w : ℕ = place_index thread in
    let less : w < word_count = omega (arith, low) in
    let k : State = beginning m in
    let zero : slice_index k.posted w ≡ 0 = get_or-replicate {A = ℕ} word_count w 0 0 less in
    let is : reading [] w ≡ place_word k.standing.seats thread = reading_empty w ∙ sym zero ∙ none_stale k.standing k.posted (opening_settled m) w less ∙ word_of_place k.standing thread in
    record { point = []; begins = ([], refl); is = is ∙ ap (λ (x : State). place_word x.standing.seats thread) (sym (states_begin m)) }

-- one event more
was_next : (m : Machine) (h : History) (e : Event) (thread : ℕ) → MayHappen m (state_after m h) e → WasAt m h thread (reading h (place_index thread)) → WasAt m (h ++ e ∷ []) thread (reading (h ++ e ∷ []) (place_index thread))
was_next m h (Entered e) thread may was =
    record { point = was.point; begins = prefix_more was.point h (Entered e ∷ []) was.begins; is = reading_other h (Entered e) (place_index thread) (λ x. not_first thread (sym x)) ∙ was.is }
was_next m h (Posted u value) thread may was =
    let w : ℕ = place_index thread in
    elim (cases_eq u w) [
      | inl e ↦
          let is : reading (h ++ Posted u value ∷ []) w ≡ value = ap (λ (v : ℕ). reading (h ++ Posted v value ∷ []) w) e ∙ reading_posted h w value (not_first thread) in
          record { point = h; begins = (Posted u value ∷ [], refl); is = is ∙ may.is ∙ ap (word_of (state_after m h).standing) e ∙ word_of_place (state_after m h).standing thread }
      | inr ne ↦ record { point = was.point; begins = prefix_more was.point h (Posted u value ∷ []) was.begins; is = reading_other h (Posted u value) w ne ∙ was.is }
    ]

-- all events of a legal rest
was_from : (m : Machine) (h es : History) (thread : ℕ) → IsLegal m (h ++ es) → WasAt m h thread (reading h (place_index thread)) → WasAt m (h ++ es) thread (reading (h ++ es) (place_index thread))
was_from m h [] thread legal was = subst (λ (x : History). WasAt m x thread (reading x (place_index thread))) (sym (append-nil h)) was
was_from m h (e ∷ es) thread legal was =
    let split : (h ++ e ∷ []) ++ es ≡ h ++ e ∷ es = append_assoc h (e ∷ []) es in
    let may : MayHappen m (state_after m h) e = (follows_by_state m h e).0 (legal_allowed m h es e legal) in
    subst (λ (x : History). WasAt m x thread (reading x (place_index thread))) split
    (was_from m (h ++ e ∷ []) es thread (subst (IsLegal m) (sym split) legal) (was_next m h e thread may was))

-- the reading of a place word was the thread's at a point of the history
pub was_place : (m : Machine) (h : History) (thread : ℕ) → IsLegal m h → thread < all_threads → WasAt m h thread (reading h (place_index thread))
was_place m h thread legal low = was_from m [] h thread legal (was_first m thread low)

-- so it is read as a place
names_a_place : PlacesAreDecoded → (m : Machine) (h : History) (thread : ℕ) → IsMachineOfAnyLimit m → IsLegal m h → thread < all_threads → (place : Place) × (place_in_word m (reading h (place_index thread)) ≡ Some place)
names_a_place decoded m h thread machine legal low =
    let was : WasAt m h thread (reading h (place_index thread)) = was_place m h thread legal low in
    let k : State = state_after m was.point in
    let i : IsConsistent m k = (leads m was.point machine (legal_prefix m was.point h was.begins legal)).consistent in
    (place_of m k.standing.seats thread, ap (place_in_word m) was.is ∙ decoded m k.standing.seats thread i.standing.cores)

-- by the cores of a machine with another limit
pub read_place : PlacesAreDecoded → (m t : Machine) (h : History) (thread word : ℕ) (o : Option Place) (p : Place) → with_limit t m.orders ≡ m → IsMachine t → IsLegal m h → thread < all_threads → word ≡ reading h (place_index thread) → o ≡ place_in_word t word → p ≡ unwrap_or o Unmanaged
    → place_in_word m (reading h (place_index thread)) ≡ Some p
read_place decoded m t h thread word o p same machine legal low is found got =
    let any : IsMachineOfAnyLimit m = subst IsMachineOfAnyLimit same (machine_of_any_limit t machine) in
    let n = names_a_place decoded m h thread any legal low in
    let named : o ≡ Some n.0 = found ∙ ((λ i. place_in_word (same i) (is i)) ∙ n.1) in
    let that : p ≡ n.0 = got ∙ ap (λ (x : Option Place). unwrap_or x Unmanaged) named in
    n.1 ∙ ap Some (sym that)
