-- What is said of no client, and of the first client.
use Rattle.std.specs.Prelude.{ℕ, ◌<◌}
use Rattle.arb_model.specs.Limits.{clients}

-- no client has a property
abbrev pub NoClient : (ℕ → Type 0) → Type 0
NoClient P = (c : ℕ) → c < clients → ¬ P c

-- a client is the first that has a property: no client of a smaller number has it
pub record IsFirst (P : ℕ → Type 0) (c : ℕ) : Type 0 where
  pub within : c < clients
  pub has : P c
  pub first : (other : ℕ) → other < c → ¬ P other
