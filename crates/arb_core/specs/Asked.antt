-- What the applications ask for.
use Rattle.std.specs.Prelude.{ℕ, List, Option}

-- the request of each application, none where it has not joined, and its cap, none where it has none
pub record Asked : Type 0 where
  pub requests : List (Option (List ℕ))
  pub caps : List (Option ℕ)
