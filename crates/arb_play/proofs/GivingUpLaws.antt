-- What a gate let through, one order after another and one client after another.
use Rattle.std.proofs.Common.{◌≡◌, ℕ, ◌<◌, ◌≤◌, length, get_or, List, [], ◌∷◌, false, Option, Some, None, refl, ap, arith}
use Rattle.std.specs.Prelude.{◌==◌, IfNone, IfSome, slice_get, unwrap_or}
use Rattle.std.specs.List.{list_any}
use Rattle.std.proofs.lemmas.Bool.Decides.{nat_tests}
use Rattle.std.proofs.lemmas.Option.{slice_get-get_or}
use Rattle.arb_model.specs.declared.orders.Order.TheVariants.{Join}
use Rattle.arb_script.specs.declared.given.ClientOrder.{ClientOrder}
use Rattle.arb_play.specs.GivingUp.{MayBeLetThrough, MayBeGivenUp}
use Rattle.arb_play.specs.Joining.{GivesUp, earlier_of}
use Rattle.arb_play.specs.Scripts.{clients_in}
use Rattle.arb_play.specs.Walking.{OwnLetThrough}
use Rattle.arb_play.proofs.ClientLaws.{each_listed}

-- the lesser of two orders is at or before both; where there is none, the end of the script stands for it
earlier_below : (may : ℕ → Type 0) (script : List ClientOrder) (a b : Option ℕ) → IfSome a (MayBeGivenUp may script) → IfSome b (MayBeGivenUp may script)
    → (unwrap_or (earlier_of a b) (length script) ≤ unwrap_or a (length script)) × (unwrap_or (earlier_of a b) (length script) ≤ unwrap_or b (length script))
earlier_below may script a b p q = grind (arith, nat_tests)

-- the first n orders of a script are such that the gate may let through, but for those of some clients
abbrev pub ThroughBut : (lets : ℕ → Type 0) → (script : List ClientOrder) → (n : ℕ) → (clients : List ℕ) → Type 0
ThroughBut lets script n clients = (order : ℕ) (given : ClientOrder) → order < n → slice_get script order ≡ Some given → list_any (λ c. c == given.client) clients ≡ false → lets order

-- before any thread is joined
pub none_joined : (lets : ℕ → Type 0) (script : List ClientOrder) (n : ℕ) (clients : List ℕ) → clients ≡ clients_in script → ThroughBut lets script n clients
none_joined lets script n clients is k given below there left = grind (arith, each_listed script k given there)

-- one more thread is joined
pub one_joined : (may lets : ℕ → Type 0) (script : List ClientOrder) (a b : Option ℕ) (clients rest : List ℕ) (client : ℕ)
    → clients ≡ client ∷ rest → IfSome a (MayBeGivenUp may script) → IfSome b (MayBeGivenUp may script)
    → ThroughBut lets script (unwrap_or a (length script)) clients → OwnLetThrough lets script client (unwrap_or b (length script)) → ThroughBut lets script (unwrap_or (earlier_of a b) (length script)) rest
one_joined may lets script a b clients rest client is p q but own = λ k given below there left.
    let least = earlier_below may script a b p q in
    grind (arith, nat_tests, own k given, but k given)

-- where no client is left, all orders were let through
all_through : (lets : ℕ → Type 0) (script : List ClientOrder) (n : ℕ) (clients : List ℕ) → clients ≡ [] → n ≤ length script → ThroughBut lets script n clients → MayBeLetThrough lets n
all_through lets script n clients none most but = λ k below.
    let other : ClientOrder = record { client = 0; order = Join } in
    let given = get_or script k other in
    but k given below (slice_get-get_or script k other (omega (arith, below, most))) (ap (list_any (λ c. c == given.client)) none)

-- all threads are joined
pub all_joined : (may lets : ℕ → Type 0) (script : List ClientOrder) (gave_up : Option ℕ) (clients : List ℕ)
    → clients ≡ [] → IfSome gave_up (MayBeGivenUp may script) → ThroughBut lets script (unwrap_or gave_up (length script)) clients → GivesUp may lets script gave_up
all_joined may lets script None clients none p but = all_through lets script (length script) clients none (omega arith) but
all_joined may lets script (Some order) clients none p but = record { allowed = p; earlier = all_through lets script order clients none (omega (arith, p.0)) but }

-- what holds where an option has no value holds of one that isn't any
pub if_none : {X : Type 0} (o : Option X) (P : Type 0) → IfNone o P → ((x : X) → o ≡ Some x → ⊥) → P
if_none None P holds none = holds
if_none (Some x) P holds none = absurd (none x refl)
