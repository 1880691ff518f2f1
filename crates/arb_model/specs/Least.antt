-- The least as a function: it names the one choice of `PicksLeast`.
use Rattle.std.specs.Prelude.{ℕ, List, Bool, ◌==◌, ◌&&◌, ◌||◌, nat_lt, length}
use Rattle.arb_model.specs.Lists.{count_below, each_at}
use Rattle.arb_model.specs.Pick.{Key, is_set, key_at}

-- whether the first number is less, or the two are the same and the rest decides so
abbrev pub less_or : ℕ → ℕ → (rest : Bool) → Bool
less_or x y rest = nat_lt x y || ((x == y) && rest)

-- `Precedes` as a test: whether the key a at place p comes before the key b at place q
abbrev pub precedes : Key → ℕ → Key → ℕ → Bool
precedes a p b q = less_or a.first b.first (less_or a.second b.second (less_or a.third b.third (nat_lt p q)))

-- how many of some candidates come before a place
abbrev pub ahead_of : List Key → List Bool → ℕ → ℕ
ahead_of keys candidates place =
    count_below (λ q. is_set candidates q && precedes (key_at keys q) q (key_at keys place) place) (length candidates)

-- the flags that pick so many of some candidates, those of least key: each candidate that fewer others come before
unfoldable pub least_of : (keys : List Key) (candidates : List Bool) (size : ℕ) → List Bool
least_of keys candidates size =
    each_at (λ place is_candidate. is_candidate && nat_lt (ahead_of keys candidates place) size) 0 candidates
