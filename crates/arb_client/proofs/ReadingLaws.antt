-- What a place word says after a legal history.
use Rattle.std.proofs.Common.{◌≡◌, ℕ, ◌<◌, Option, Some, refl, sym, ap, ◌∙◌, subst}
use Rattle.std.specs.Prelude.{unwrap_or}
use Rattle.arb_config.specs.Machine.{IsMachine, Machine}
use Rattle.arb_model.specs.declared.orders.Place.{Place}
use Rattle.arb_model.specs.declared.orders.Place.TheVariants.{Unmanaged}
use Rattle.arb_model.specs.Consistent.{IsConsistent}
use Rattle.arb_model.specs.Decoding.{PlacesAreDecoded, place_in_word}
use Rattle.arb_model.specs.History.{History, IsLegal, state_after}
use Rattle.arb_model.specs.HistoryLaws.{WasAt}
use Rattle.arb_model.specs.Layout.{place_index}
use Rattle.arb_model.specs.Limits.{all_threads}
use Rattle.arb_model.specs.Reading.{reading}
use Rattle.arb_model.specs.Step.{place_of}
use Rattle.arb_model.proofs.LegalLaws.{legal_prefix}
use Rattle.arb_model.proofs.PlaceLaws.{reads_a_place}
use Rattle.arb_model.proofs.PostedLaws.{IsConsistent-after}
use Rattle.arb_client.specs.Readings.{WasPlaced}

-- the place word of a thread names the place that the thread had at a point of the history
pub names_a_place : PlacesAreDecoded → (m : Machine) (h : History) (thread : ℕ) → IsMachine m → IsLegal m h → thread < all_threads → (place : Place) × (place_in_word m (reading h (place_index thread)) ≡ Some place) × WasPlaced m h thread place
names_a_place decoded m h thread machine legal low =
    let was : WasAt m h thread (reading h (place_index thread)) = reads_a_place m h thread machine legal low in
    let k = state_after m was.point in
    let i : IsConsistent m k = IsConsistent-after m was.point machine (legal_prefix m was.point h was.begins legal) in (
      place_of m k.standing.seats thread,
      ap (place_in_word m) was.is ∙ decoded m k.standing.seats thread i.standing.cores,
      record { point = was.point; begins = was.begins; is = refl },
    )

-- so what is read of it is that place
pub read_place : PlacesAreDecoded → (m t : Machine) (h : History) (thread word : ℕ) (o : Option Place) (p : Place) → t ≡ m → IsMachine m → IsLegal m h → thread < all_threads → Some word ≡ Some (reading h (place_index thread)) → o ≡ place_in_word t word → p ≡ unwrap_or o Unmanaged
    → (place_in_word m (reading h (place_index thread)) ≡ Some p) × WasPlaced m h thread p
read_place decoded m t h thread word o p same machine legal low is found got =
    let n = names_a_place decoded m h thread machine legal low in
    let one : word ≡ reading h (place_index thread) = some_apart word (reading h (place_index thread)) is in
    let named : o ≡ Some n.0 = found ∙ ((λ i. place_in_word (same i) (one i)) ∙ n.1) in
    let that : p ≡ n.0 = got ∙ ap (λ (x : Option Place). unwrap_or x Unmanaged) named in
    (n.1 ∙ ap Some (sym that), subst (λ (x : Place). WasPlaced m h thread x) (sym that) n.2)
  where
    some_apart : (x y : ℕ) → Some x ≡ Some y → x ≡ y
    some_apart x y e = cc e
