-- Laws of counting.
use Rattle.std.proofs.lemmas.Grind.{common_steps}
use Rattle.std.proofs.lemmas.Bool.Decides.{nat_tests}
use Rattle.std.proofs.Common.{◌≡◌, ℕ, ◌+◌, ◌<◌, ◌≤◌, List, [], ◌∷◌, length, get_or, zero, suc, map, refl, arith, sym, ap, ◌∙◌, ◌⊎◌, Bool, true, false, inl, inr, filter}
use Rattle.std.specs.Prelude.{◌&&◌, ◌||◌}
use Rattle.std.specs.List.{count_by, list_any}
use Rattle.std.proofs.lemmas.Bool.{cases_eq}
use Rattle.std.proofs.lemmas.List.Sums.{sum_by-cons}
use Rattle.arb_model.specs.Lists.{count_below, each_at, one_if}

pub and_false : (b : Bool) → (b && false) ≡ false
and_false b = grind (arith, nat_tests)

pub and_true : (b : Bool) → (b && true) ≡ b
and_true b = grind (arith, nat_tests)

pub or_false : (b : Bool) → (b || false) ≡ b
or_false b = grind (arith, nat_tests)

pub count_below-none : (passes : ℕ → Bool) (n : ℕ) → ((p : ℕ) → p < n → passes p ≡ false) → count_below passes n ≡ 0
count_below-none passes zero h = refl
count_below-none passes (suc n) h = omega (arith, count_below-none passes n (λ p lt. h p (omega arith)), ap one_if (h n (omega arith)))

pub count_below-same : (f g : ℕ → Bool) (n : ℕ) → ((p : ℕ) → p < n → f p ≡ g p) → count_below f n ≡ count_below g n
count_below-same f g zero h = refl
count_below-same f g (suc n) h = omega (arith, count_below-same f g n (λ p lt. h p (omega arith)), ap one_if (h n (omega arith)))

-- two tests that differ at one place
pub count_below-one_less : (f g : ℕ → Bool) (place n : ℕ) → place < n → f place ≡ true → g place ≡ false → ((p : ℕ) → (p ≡ place → ⊥) → g p ≡ f p) → count_below g n + 1 ≡ count_below f n
count_below-one_less f g place zero h t u same = absurd (omega arith)
count_below-one_less f g place (suc n) h t u same =
    elim (cases_eq n place) [
      | inl e ↦
          let below : count_below g n ≡ count_below f n = count_below-same g f n (λ p lt. same p (λ q. absurd (omega arith))) in
          omega (arith, below, ap one_if (ap f e ∙ t), ap one_if (ap g e ∙ u))
      | inr ne ↦ omega (arith, count_below-one_less f g place n (omega (arith, ne)) t u same, ap one_if (same n ne))
    ]

pub count_below-some : (passes : ℕ → Bool) (n p : ℕ) → p < n → passes p ≡ true → 0 < count_below passes n
count_below-some passes zero p less h = absurd (omega (arith, less))
count_below-some passes (suc n) p less h =
    elim (cases_eq p n) [
      | inl e ↦ omega (arith, ap one_if (sym (ap passes e) ∙ h))
      | inr ne ↦ omega (arith, count_below-some passes n p (omega (arith, less, ne)) h)
    ]

pub count_below-le : (passes : ℕ → Bool) (n : ℕ) → count_below passes n ≤ n
count_below-le passes zero = omega arith
count_below-le passes (suc n) = omega (arith, count_below-le passes n, most (passes n))
  where
    most : (b : Bool) → one_if b ≤ 1
    most true = omega arith
    most false = omega arith

pub none_counted : (passes : ℕ → Bool) (n p : ℕ) → count_below passes n ≡ 0 → p < n → passes p ≡ true → ⊥
none_counted passes n p z less h = omega (arith, z, count_below-some passes n p less h)

one_if-le : (a b : Bool) → (a ≡ true → b ≡ true) → one_if a ≤ one_if b
one_if-le a b h = grind (arith, nat_tests)

-- a test that passes less often
pub count_below-subset : (f g : ℕ → Bool) (n : ℕ) → ((p : ℕ) → p < n → f p ≡ true → g p ≡ true) → count_below f n ≤ count_below g n
count_below-subset f g zero h = omega arith
count_below-subset f g (suc n) h = omega (arith, count_below-subset f g n (λ p lt. h p (omega (arith, lt))), one_if-le (f n) (g n) (h n (omega arith)))

pub count_below-smaller : (f g : ℕ → Bool) (n place : ℕ) → place < n → f place ≡ false → g place ≡ true → ((p : ℕ) → p < n → f p ≡ true → g p ≡ true) → count_below f n < count_below g n
count_below-smaller f g zero place less off on h = absurd (omega (arith, less))
count_below-smaller f g (suc n) place less off on h =
    elim (cases_eq n place) [
      | inl e ↦ omega (arith, count_below-subset f g n (λ p lt. h p (omega (arith, lt))), ap one_if (ap f e ∙ off), ap one_if (ap g e ∙ on))
      | inr ne ↦
          let last : one_if (f n) ≤ one_if (g n) = one_if-le (f n) (g n) (h n (omega arith)) in
          omega (arith, count_below-smaller f g n place (omega (arith, less, ne)) off on (λ p lt. h p (omega (arith, lt))), last)
    ]

-- the first number apart
pub count_below-first : (f : ℕ → Bool) (n : ℕ) → count_below f (suc n) ≡ one_if (f 0) + count_below (λ p. f (suc p)) n
count_below-first f zero = omega arith
count_below-first f (suc n) = omega (arith, count_below-first f n)

-- the flags that are set, by places
pub count_below-flags : (flags : List Bool) → count_below (λ p. get_or flags p false) (length flags) ≡ count_by (λ b. b) flags
count_below-flags [] = refl
count_below-flags (x ∷ xs) = omega (arith, count_below-first (λ p. get_or (x ∷ xs) p false) (length xs), sum_by-cons one_if x xs, count_below-flags xs)

-- counts
pub count_by_same : {X : Type 0} (p q : X → Bool) (xs : List X) → ((x : X) → p x ≡ q x) → count_by p xs ≡ count_by q xs
count_by_same {X} p q xs h = let e : p ≡ q = λ i x. h x i in ap (λ (f : X → Bool). count_by f xs) e

pub count_by_none : {X : Type 0} (p : X → Bool) (xs : List X) → ((x : X) → p x ≡ false) → count_by p xs ≡ 0
count_by_none p [] h = refl
count_by_none p (x ∷ xs) h = omega (arith, sum_by-cons (λ y. one_if (p y)) x xs, ap one_if (h x), count_by_none p xs h)

pub count_by_map : {X Y : Type 0} (p : Y → Bool) (f : X → Y) (xs : List X) → count_by p (map f xs) ≡ count_by (λ x. p (f x)) xs
count_by_map p f [] = refl
count_by_map p f (x ∷ xs) = omega (arith, sum_by-cons (λ y. one_if (p y)) (f x) (map f xs), sum_by-cons (λ y. one_if (p (f y))) x xs, count_by_map p f xs)

pub count_by_each_at : {X : Type 0} (p : X → Bool) (f : ℕ → X → X) (k : ℕ) (xs : List X) → ((i : ℕ) (x : X) → p (f i x) ≡ p x) → count_by p (each_at f k xs) ≡ count_by p xs
count_by_each_at p f k [] h = refl
count_by_each_at p f k (x ∷ xs) h = omega (arith, sum_by-cons (λ y. one_if (p y)) (f k x) (each_at f (k + 1) xs), sum_by-cons (λ y. one_if (p y)) x xs, ap one_if (h k x), count_by_each_at p f (k + 1) xs h)

pub count_by_filter : {X : Type 0} (p q : X → Bool) (xs : List X) → count_by p (filter q xs) ≡ count_by (λ x. q x && p x) xs
count_by_filter p q [] = refl
count_by_filter p q (x ∷ xs) = grind (arith, common_steps, sum_by-cons, count_by_filter p q xs)

-- some pass exactly where the count isn't 0
pub any_counted : {X : Type 0} (p : X → Bool) (xs : List X) → ((list_any p xs ≡ true) × (0 < count_by p xs)) ⊎ ((list_any p xs ≡ false) × (count_by p xs ≡ 0))
any_counted p [] = inr (refl, refl)
any_counted p (x ∷ xs) = grind (arith, common_steps, sum_by-cons, any_counted p xs)

-- where two tests are apart, the count of either is their sum
pub count_by_split : {X : Type 0} (p q r : X → Bool) (xs : List X) → ((x : X) → one_if (p x) ≡ one_if (q x) + one_if (r x)) → count_by p xs ≡ count_by q xs + count_by r xs
count_by_split p q r [] h = refl
count_by_split p q r (x ∷ xs) h = omega (arith, sum_by-cons (λ y. one_if (p y)) x xs, sum_by-cons (λ y. one_if (q y)) x xs, sum_by-cons (λ y. one_if (r y)) x xs, h x, count_by_split p q r xs h)

-- the first and the rest
pub counts_cons : {X : Type 0} (p : X → Bool) (x : X) (xs : List X) → count_by p (x ∷ xs) ≡ count_by p (x ∷ []) + count_by p xs
counts_cons p x xs = omega (arith, sum_by-cons (λ y. one_if (p y)) x xs, sum_by-cons (λ y. one_if (p y)) x [])
