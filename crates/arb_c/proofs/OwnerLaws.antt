-- The owner of a core, as C is told it.
use Rattle.std.proofs.Common.{◌≡◌, ℕ, Option, None, Some, refl, sym, ap, ◌∙◌, subst}
use Rattle.std.specs.Prelude.{◌↔◌}
use Rattle.std.proofs.lemmas.Option.{none-some, same_Some}
use Rattle.arb_model.specs.Arbiter.{Arbiter}
use Rattle.arb_model.specs.Owners.{IsOwner}
use Rattle.arb_c.specs.Codes.{no_owner, ok}
use Rattle.arb_c.specs.Calls.{HasNoOwner, IsOwnerAt}

-- who is found owns the core, and nobody else does
abbrev pub Finds : Arbiter → (core : ℕ) → Option ℕ → Type 0
Finds a core found = (thread : ℕ) → (found ≡ Some thread) ↔ IsOwner a.machine a.standing.seats core thread

-- the same of an arbiter that is the same
pub finds_of : (a b : Arbiter) → b ≡ a → (core : ℕ) (found : Option ℕ) → Finds b core found → Finds a core found
finds_of a b same core found finds = subst (λ x. Finds x core found) same finds

-- an owner that was found is told
pub told : (a : Arbiter) (core owner index : ℕ) → index ≡ owner → Finds a core (Some owner) → (number : ℕ) → ((ok ≡ ok) × (index ≡ number)) ↔ IsOwnerAt (Some a) core number
told a core owner index is finds number =
    ((λ p. (finds number).0 (ap Some (sym is ∙ p.1))), (λ owns. (refl, is ∙ same_Some owner number ((finds number).1 owns))))

-- there is an owner where one was found
pub not_free : (a : Arbiter) (core owner : ℕ) → Finds a core (Some owner) → (ok ≡ no_owner) ↔ HasNoOwner (Some a) core
not_free a core owner finds = ((λ wrong. absurd (cc wrong)), (λ none. absurd (none owner ((finds owner).0 refl))))

-- where none was found nothing is told
pub not_told : (a : Arbiter) (core before : ℕ) → Finds a core None → (number : ℕ) → ((no_owner ≡ ok) × (before ≡ number)) ↔ IsOwnerAt (Some a) core number
not_told a core before finds number = ((λ p. absurd (cc p.0)), (λ owns. absurd (none-some number ((finds number).1 owns))))

-- there is no owner where none was found
pub free : (a : Arbiter) (core : ℕ) → Finds a core None → (no_owner ≡ no_owner) ↔ HasNoOwner (Some a) core
free a core finds = ((λ _. λ thread owns. none-some thread ((finds thread).1 owns)), (λ _. refl))
