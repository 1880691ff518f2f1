-- What the applications want, by level.
use Rattle.std.specs.Prelude.{◌≡◌, ℕ, ◌<◌, List, [], Option, length, slice_index_or}
use Rattle.arb_share.specs.Limits.{levels, applications}
use Rattle.arb_share.specs.Due.{Entries, demands_at}

-- a row for each level, with what each application wants there by its request
pub record AreDemands (rows : List (List ℕ)) (requests : List (Option Entries)) : Type 0 where
  pub one_each : length requests ≡ applications
  pub each : (level : ℕ) → level < levels → slice_index_or rows level [] ≡ demands_at level requests
