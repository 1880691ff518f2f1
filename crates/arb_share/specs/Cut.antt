-- A request cut at a cap: how much of it stands.
use Rattle.std.specs.Prelude.{◌≡◌, ℕ, ◌+◌, ◌-◌, ◌<◌, List, [], ◌∷◌, length, take, sum, min}
use Rattle.arb_share.specs.Limits.{levels}
use Rattle.arb_share.specs.Division.{ExactlyOne}

-- `cut` is the request `full` cut at `cap`: up to each level it wants as many cores as the full one, but no more than the cap
pub record IsCut (cap : ℕ) (full cut : List ℕ) : Type 0 where
  -- each level has an entry
  pub one_each : length cut ≡ levels
  -- up to and with each level, the lesser of the cap and of what the full one wants
  pub up_to : (level : ℕ) → level < levels → sum (take (level + 1) cut) ≡ min cap (sum (take (level + 1) full))

-- the law of cuts: every request has exactly one cut at every cap
abbrev pub HasOneCut : Type 0
HasOneCut = (cap : ℕ) (full : List ℕ) → length full ≡ levels → ExactlyOne (IsCut cap full)

-- the cut at `cap`, level by level: each level keeps what it has, or what the levels before it leave of the cap where
-- that is less. That it is the only one is the law `cut_is_unique`.
unfoldable pub cut_of : (cap : ℕ) (full : List ℕ) → List ℕ
cut_of cap [] = []
cut_of cap (entry ∷ later) = min cap entry ∷ cut_of (cap - entry) later
