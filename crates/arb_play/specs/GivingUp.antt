-- Which order was given up.
use Rattle.std.specs.Prelude.{ℕ, ◌<◌, ◌⊎◌, List, length}
use Rattle.arb_script.specs.declared.given.ClientOrder.{ClientOrder}

-- the first n orders of a script are such that the gate may let through
abbrev pub MayBeLetThrough : (lets : ℕ → Type 0) → (n : ℕ) → Type 0
MayBeLetThrough lets n = (order : ℕ) → order < n → lets order

-- an order of the script that the gate may give up
abbrev pub MayBeGivenUp : (may : ℕ → Type 0) → (script : List ClientOrder) → (order : ℕ) → Type 0
MayBeGivenUp may script order = (order < length script) × may order

-- an order of the script that the gate may give up, and each earlier one, whichever client's, is one that it may let through
pub record IsGivenUp (may lets : ℕ → Type 0) (script : List ClientOrder) (order : ℕ) : Type 0 where
  pub allowed : MayBeGivenUp may script order
  pub earlier : MayBeLetThrough lets order

-- an order for which a gate was asked: it is one that the gate may give up, or one that it may let through
abbrev pub IsAsked : (may lets : ℕ → Type 0) → (order : ℕ) → Type 0
IsAsked may lets order = may order ⊎ lets order
