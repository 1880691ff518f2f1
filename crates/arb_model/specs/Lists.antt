-- A few words on lists and numbers that the definitions use.
use Rattle.std.specs.Prelude.{ℕ, ◌+◌, List, [], ◌∷◌, Bool, zero, suc, if◌then◌else◌}

-- 1 where a test passes
abbrev pub one_if : Bool → ℕ
one_if passes = if passes then 1 else 0

-- how many of the numbers below n pass a test
abbrev pub count_below : (ℕ → Bool) → ℕ → ℕ
count_below passes zero = 0
count_below passes (suc n) = count_below passes n + one_if (passes n)

-- a list with each element replaced by what its place and itself give, places counted from k
abbrev pub each_at : {A B : Type 0} → (ℕ → A → B) → ℕ → List A → List B
each_at f k [] = []
each_at f k (x ∷ xs) = f k x ∷ each_at f (k + 1) xs
