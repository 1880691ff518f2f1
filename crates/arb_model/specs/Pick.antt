-- Picking the least among the places of a list, by their keys.
use Rattle.std.specs.Prelude.{◌≡◌, ℕ, ◌<◌, ◌⊎◌, List, length, slice_index_or, count_by, min, Bool, true, false}

-- what decides between two places: the first difference, from the top
pub record Key : Type 0 where
  pub first : ℕ
  pub second : ℕ
  pub third : ℕ

-- whether a place is marked; places past the end are not
abbrev pub is_set : List Bool → ℕ → Bool
is_set flags place = slice_index_or flags place false

-- the key of a place
abbrev pub key_at : List Key → ℕ → Key
key_at keys place = slice_index_or keys place (record { first = 0; second = 0; third = 0 })

-- the key a at place p comes before the key b at place q: the first difference decides, in the keys from the top, then in the places
abbrev pub Precedes : Key → ℕ → Key → ℕ → Type 0
Precedes a p b q =
    (a.first < b.first)
    ⊎ ((a.first ≡ b.first) × ((a.second < b.second)
    ⊎ ((a.second ≡ b.second) × ((a.third < b.third)
    ⊎ ((a.third ≡ b.third) × (p < q))))))

-- place p comes before place q
abbrev pub ComesFirst : List Key → ℕ → ℕ → Type 0
ComesFirst keys p q = Precedes (key_at keys p) p (key_at keys q) q

-- `picked` marks `size` of the candidates, or all of them if there are fewer, each before each candidate that it leaves out
pub record PicksLeast (keys : List Key) (candidates : List Bool) (size : ℕ) (picked : List Bool) : Type 0 where
  pub one_each : length picked ≡ length candidates
  pub among : (p : ℕ) → is_set picked p ≡ true → is_set candidates p ≡ true
  pub as_many : count_by (λ b. b) picked ≡ min size (count_by (λ b. b) candidates)
  pub least : (p q : ℕ) → is_set picked p ≡ true → is_set candidates q ≡ true → is_set picked q ≡ false → ComesFirst keys p q
