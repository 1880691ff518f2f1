-- Laws of lists: written place by place, and cut off.
use Rattle.std.proofs.lemmas.Grind.{common_steps}
use Rattle.std.proofs.lemmas.Bool.Decides.{nat_tests}
use Rattle.std.proofs.Common.{◌≡◌, ℕ, ◌+◌, ◌<◌, List, [], ◌∷◌, length, get_or, zero, suc, map, refl, arith, ap, take, set, Bool, cond, inl, inr, replicate}
use Rattle.arb_model.specs.Lists.{each_at}
use Rattle.std.specs.List.{count_by, position_or_len}
use Rattle.std.proofs.lemmas.List.Sums.{sum_by-cons}
use Rattle.std.proofs.lemmas.Bool.{cases_Bool}

pub length-each_at : {A B : Type 0} (f : ℕ → A → B) (k : ℕ) (xs : List A) → length (each_at f k xs) ≡ length xs
length-each_at f k [] = refl
length-each_at f k (x ∷ xs) = ap suc (length-each_at f (k + 1) xs)

pub get_or-each_at_from : {A B : Type 0} (f : ℕ → A → B) (k : ℕ) (xs : List A) (i : ℕ) (a : A) (b : B) → i < length xs → get_or (each_at f k xs) i b ≡ f (k + i) (get_or xs i a)
get_or-each_at_from f k [] i a b h = absurd (omega arith)
get_or-each_at_from f k (x ∷ xs) zero a b h = let e : k ≡ k + 0 = omega arith in ap (λ n. f n x) e
get_or-each_at_from f k (x ∷ xs) (suc i) a b h = grind (arith, nat_tests, get_or-each_at_from f (k + 1) xs i a b (omega arith))

pub get_or-each_at : {A B : Type 0} (f : ℕ → A → B) (xs : List A) (i : ℕ) (a : A) (b : B) → i < length xs → get_or (each_at f 0 xs) i b ≡ f i (get_or xs i a)
get_or-each_at f xs i a b h = grind (arith, nat_tests, common_steps, get_or-each_at_from)

pub get_or-map : {A B : Type 0} (f : A → B) (xs : List A) (i : ℕ) (a : A) (b : B) → i < length xs → get_or (map f xs) i b ≡ f (get_or xs i a)
get_or-map f [] i a b h = absurd (omega arith)
get_or-map f (x ∷ xs) zero a b h = refl
get_or-map f (x ∷ xs) (suc i) a b h = get_or-map f xs i a b (omega arith)

pub take-set-lt : {X : Type 0} (n : ℕ) (xs : List X) (i : ℕ) (y : X) → i < n → take n (set xs i y) ≡ set (take n xs) i y
take-set-lt zero xs i y h = absurd (omega arith)
take-set-lt (suc n) [] i y h = refl
take-set-lt (suc n) (x ∷ xs) zero y h = refl
take-set-lt (suc n) (x ∷ xs) (suc i) y h = ap (λ zs. x ∷ zs) (take-set-lt n xs i y (omega arith))

-- where some pass, the first that passes stands in the list
pub position_or_len-lt : {X : Type 0} (p : X → Bool) (xs : List X) → 0 < count_by p xs → position_or_len p xs < length xs
position_or_len-lt {X} p [] h = absurd (omega arith)
position_or_len-lt {X} p (x ∷ xs) h =
    elim (cases_Bool (p x)) [
      | inl e ↦ rw e (omega arith)
      | inr e ↦
          let rest : position_or_len p xs < length xs = position_or_len-lt p xs (omega (arith, h, sum_by-cons (λ y. one (p y)) x xs, ap one e)) in
          rw e (omega arith)
    ]
  where
    one : Bool → ℕ
    one b = cond b 1 0

-- a list of one value has it at each place, and past its end as the default
pub get_or-same : {A : Type 0} (n p : ℕ) (x : A) → get_or (replicate n x) p x ≡ x
get_or-same zero p x = refl
get_or-same (suc n) zero x = refl
get_or-same (suc n) (suc p) x = get_or-same n p x
