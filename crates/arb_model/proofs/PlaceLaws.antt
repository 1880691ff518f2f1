-- The reading of a word was the standing's at a point, so that of a place word names a position of the machine.
use Rattle.std.proofs.lemmas.Grind.{common_steps}
use Rattle.std.proofs.lemmas.Bool.Decides.{nat_tests}
use Rattle.std.proofs.Common.{◌≡◌, ℕ, ◌+◌, ◌*◌, ◌<◌, [], ◌∷◌, ◌++◌, length, set, refl, arith, sym, ap, ◌∙◌, subst, None, inl, inr, slice_index, append_assoc}
use Rattle.std.proofs.lemmas.Bool.{cases_eq, cond-true, cond-false, lt-ltb, le-ltb}
use Rattle.std.proofs.lemmas.List.{append-nil, get_or-set_same, get_or-set_other}
use mathlib.Core.List.{IsPrefix}
use Rattle.arb_config.specs.Machine.{IsMachine, Machine}
use Rattle.arb_model.specs.declared.orders.Event.{Event}
use Rattle.arb_model.specs.declared.orders.Event.TheVariants.{Entered, Posted}
use Rattle.arb_model.specs.Consistent.{IsConsistent}
use Rattle.arb_model.specs.History.{History, IsLegal, IsSettled, LegalFrom, MayHappen, State, state_after, state_next}
use Rattle.arb_model.specs.HistoryLaws.{PlacesArePositions, ReadsAPlace, ReadsAPlaceSince, WasAt}
use Rattle.arb_model.specs.Layout.{place_index, word_count}
use Rattle.arb_model.specs.Posting.{next_stale_of}
use Rattle.arb_model.specs.Reading.{reading}
use Rattle.arb_model.specs.Standing.{Seats}
use Rattle.arb_model.specs.Step.{step_of}
use Rattle.arb_model.specs.Words.{place_word, word_of}
use Rattle.arb_model.proofs.LegalLaws.{legal_prefix, state_more}
use Rattle.arb_model.proofs.OpeningLaws.{opening_settled}
use Rattle.arb_model.proofs.PostedLaws.{IsConsistent-after, IsConsistent-next}
use Rattle.arb_model.proofs.PrefixLaws.{prefix_more}
use Rattle.arb_model.proofs.ReadingLaws.{reads_posted}
use Rattle.arb_model.proofs.SettlingLaws.{legal_rest, states_begin}
use Rattle.arb_model.proofs.WordsLaws.{none_stale, word_of_place}

-- a value was the standing's of a word at a point of a history, no earlier than another point
pub record WasWord (m : Machine) (since h : History) (w value : ℕ) : Type 0 where
  pub point : History
  pub past : IsPrefix since point
  pub begins : IsPrefix point h
  pub is : value ≡ word_of (state_after m point).standing w

-- one event more
was_next : (m : Machine) (since h : History) (e : Event) (w : ℕ) → IsConsistent m (state_after m h) → MayHappen m (state_after m h) e → (w ≡ 0 → ⊥) → w < word_count → IsPrefix since h → WasWord m since h w (slice_index (state_after m h).posted w) → WasWord m since (h ++ e ∷ []) w (slice_index (state_next m (state_after m h) e).posted w)
was_next m since h (Entered e) w i may some less past was =
    let k : State = state_after m h in
    let now : ℕ = word_of (step_of m k.standing e.client e.order).standing 0 in
    let same : slice_index (set k.posted 0 now) w ≡ slice_index k.posted w = get_or-set_other k.posted 0 w now 0 some in
    record { point = was.point; past = was.past; begins = prefix_more was.point h (Entered e ∷ []) was.begins; is = same ∙ was.is }
was_next m since h (Posted u value) w i may some less past was =
    let k : State = state_after m h in
    elim (cases_eq u w) [
      | inl e ↦
          let at : slice_index (set k.posted u value) w ≡ value = ap (slice_index (set k.posted u value)) (sym e) ∙ get_or-set_same k.posted u value 0 (omega (arith, e, i.long, less)) in
          record { point = h; past = past; begins = (Posted u value ∷ [], refl); is = at ∙ may.is ∙ ap (word_of k.standing) e }
      | inr ne ↦
          let same : slice_index (set k.posted u value) w ≡ slice_index k.posted w = get_or-set_other k.posted u w value 0 (λ e. ne (sym e)) in
          record { point = was.point; past = was.past; begins = prefix_more was.point h (Posted u value ∷ []) was.begins; is = same ∙ was.is }
    ]

-- all events of a legal rest
was_from : (m : Machine) (since before es : History) (w : ℕ) → IsMachine m → IsConsistent m (state_after m before) → LegalFrom m (state_after m before) es → (w ≡ 0 → ⊥) → w < word_count → IsPrefix since before → WasWord m since before w (slice_index (state_after m before).posted w) → WasWord m since (before ++ es) w (slice_index (state_after m (before ++ es)).posted w)
was_from m since before [] w machine i l some less past was =
    subst (λ (h : History). WasWord m since h w (slice_index (state_after m h).posted w)) (sym (append-nil before)) was
was_from m since before (e ∷ es) w machine i l some less past was =
    let next : History = before ++ e ∷ [] in
    let led : state_after m next ≡ state_next m (state_after m before) e = state_more m before e in
    let kept : IsConsistent m (state_after m next) = subst (IsConsistent m) (sym led) (IsConsistent-next m (state_after m before) e machine i l.0) in
    let legal : LegalFrom m (state_after m next) es = subst (λ (k : State). LegalFrom m k es) (sym led) l.1 in
    let here : WasWord m since next w (slice_index (state_after m next).posted w) = subst (λ (k : State). WasWord m since next w (slice_index k.posted w)) (sym led) (was_next m since before e w i l.0 some less past was) in
    subst (λ (h : History). WasWord m since h w (slice_index (state_after m h).posted w)) (append_assoc before (e ∷ []) es)
    (was_from m since next es w machine kept legal some less (prefix_more since before (e ∷ []) past) here)

-- a word that is read was the standing's, no earlier than where none was stale
pub reads_a_word : (m : Machine) (before h : History) (w : ℕ) → IsMachine m → IsLegal m h → IsPrefix before h → IsSettled m before → (w ≡ 0 → ⊥) → w < word_count → WasWord m before h w (reading h w)
reads_a_word m before h w machine l p settled some less =
    let whole : before ++ p.0 ≡ h = p.1 in
    let legal : IsLegal m (before ++ p.0) = subst (IsLegal m) (sym whole) l in
    let i : IsConsistent m (state_after m before) = IsConsistent-after m before machine (legal_prefix m before h p l) in
    let self : IsPrefix before before = ([], append-nil before) in
    let first : WasWord m before before w (slice_index (state_after m before).posted w) = record { point = before; past = self; begins = self; is = none_stale (state_after m before).standing (state_after m before).posted settled w less } in
    let last : WasWord m before (before ++ p.0) w (slice_index (state_after m (before ++ p.0)).posted w) = was_from m before before p.0 w machine i (legal_rest m before p.0 legal) some less self first in
    let there : WasWord m before h w (slice_index (state_after m h).posted w) = subst (λ (x : History). WasWord m before x w (slice_index (state_after m x).posted w)) whole last in
    subst (WasWord m before h w) (sym (reads_posted m h w machine l less)) there

pub reads_a_place_since : ReadsAPlaceSince
reads_a_place_since m before h thread machine l p settled low =
    let was : WasWord m before h (place_index thread) (reading h (place_index thread)) = reads_a_word m before h (place_index thread) machine l p settled (λ e. absurd (omega (arith, e))) (omega (arith, low)) in
    (record { point = was.point; begins = was.begins; is = was.is ∙ word_of_place (state_after m was.point).standing thread }, was.past)

-- no word is stale before all orders
settled_empty : (m : Machine) → IsSettled m []
settled_empty m = subst (λ (k : State). next_stale_of k.standing k.posted ≡ None) (sym (states_begin m)) (opening_settled m)

pub reads_a_place : ReadsAPlace
reads_a_place m h thread machine l low = (reads_a_place_since m [] h thread machine l (h, refl) (settled_empty m) low).0

-- a place word of a standing
place_within : (s : Seats) (thread : ℕ) → place_word s thread < 4 + 2 * length s.cores
place_within s thread = grind (arith, nat_tests, common_steps, cond-true, lt-ltb, cond-false, le-ltb)

-- a reading of a place word names a position of the machine, where it names a core
pub places_are_positions : PlacesArePositions
places_are_positions m h thread machine l low =
    let was : WasAt m h thread (reading h (place_index thread)) = reads_a_place m h thread machine l low in
    let i : IsConsistent m (state_after m was.point) = IsConsistent-after m was.point machine (legal_prefix m was.point h was.begins l) in
    omega (arith, was.is, place_within (state_after m was.point).standing.seats thread, i.standing.cores)
