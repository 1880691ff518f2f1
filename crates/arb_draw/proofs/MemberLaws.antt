-- What a list contains that is made of pieces.
use Rattle.std.proofs.Common.{◌≡◌, ℕ, ◌+◌, ◌<◌, List, [], ◌∷◌, ◌++◌, ◌⊎◌, inl, inr, zero, suc, refl, arith, length, subst}
use Rattle.std.specs.Prelude.{Contains, slice_index_or}
use Rattle.std.specs.List.{flat_map, range_with_len}

contains_first : {A : Type 0} (x : A) (xs : List A) → Contains (x ∷ xs) x
contains_first x xs = (0, omega arith, refl)

contains_later : {A : Type 0} (x y : A) (xs : List A) → Contains xs y → Contains (x ∷ xs) y
contains_later x y xs h = (suc h.0, omega (arith, h.1), h.2)

contains_cases : {A : Type 0} (x y : A) (xs : List A) → Contains (x ∷ xs) y → (x ≡ y) ⊎ Contains xs y
contains_cases x y xs h = by_place h.0 h.1 h.2
  where
    by_place : (k : ℕ) → k < suc (length xs) → slice_index_or (x ∷ xs) k y ≡ y → (x ≡ y) ⊎ Contains xs y
    by_place zero within is = inl is
    by_place (suc k) within is = inr (k, omega arith, is)

pub contains_left : {A : Type 0} (xs ys : List A) (y : A) → Contains xs y → Contains (xs ++ ys) y
contains_left [] ys y h = absurd (omega (arith, h.1))
contains_left (x ∷ xs) ys y h = elim (contains_cases x y xs h) [ inl e ↦ subst (λ z. Contains (x ∷ (xs ++ ys)) z) e (contains_first x (xs ++ ys)) | inr later ↦ contains_later x y (xs ++ ys) (contains_left xs ys y later) ]

pub contains_right : {A : Type 0} (xs ys : List A) (y : A) → Contains ys y → Contains (xs ++ ys) y
contains_right [] ys y h = h
contains_right (x ∷ xs) ys y h = contains_later x y (xs ++ ys) (contains_right xs ys y h)

pub contains_either : {A : Type 0} (xs ys : List A) (y : A) → Contains (xs ++ ys) y → Contains xs y ⊎ Contains ys y
contains_either [] ys y h = inr h
contains_either (x ∷ xs) ys y h =
    elim (contains_cases x y (xs ++ ys) h) [
      | inl e ↦ inl (subst (λ z. Contains (x ∷ xs) z) e (contains_first x xs))
      | inr later ↦ elim (contains_either xs ys y later) [ inl front ↦ inl (contains_later x y xs front) | inr rest ↦ inr rest ]
    ]

-- a piece of a number below n is there
pub contains_piece : {A : Type 0} (f : ℕ → List A) (a n k : ℕ) (y : A) → k < n → Contains (f (a + k)) y → Contains (flat_map f (range_with_len a n)) y
contains_piece f a zero k y within h = absurd (omega arith)
contains_piece f a (suc n) zero y within h =
    let place : a + 0 ≡ a = omega arith in
    contains_left (f a) (flat_map f (range_with_len (a + 1) n)) y (subst (λ (i : ℕ). Contains (f i) y) place h)
contains_piece f a (suc n) (suc k) y within h =
    let place : a + suc k ≡ a + 1 + k = omega arith in
    contains_right (f a) (flat_map f (range_with_len (a + 1) n)) y (contains_piece f (a + 1) n k y (omega arith) (subst (λ (i : ℕ). Contains (f i) y) place h))

-- what is there is in a piece of a number below n
pub record HasPiece {A : Type 0} (f : ℕ → List A) (a n : ℕ) (y : A) : Type 0 where
  pub k : ℕ
  pub within : k < n
  pub there : Contains (f (a + k)) y

pub piece_of : {A : Type 0} (f : ℕ → List A) (a n : ℕ) (y : A) → Contains (flat_map f (range_with_len a n)) y → HasPiece f a n y
piece_of f a zero y h = absurd (omega (arith, h.1))
piece_of f a (suc n) y h =
    elim (contains_either (f a) (flat_map f (range_with_len (a + 1) n)) y h) [
      | inl front ↦ let place : a ≡ a + 0 = omega arith in record { k = 0; within = omega arith; there = subst (λ (i : ℕ). Contains (f i) y) place front }
      | inr rest ↦
          let piece : HasPiece f (a + 1) n y = piece_of f (a + 1) n y rest in
          let place : a + 1 + piece.k ≡ a + suc piece.k = omega arith in
          record { k = suc piece.k; within = omega (arith, piece.within); there = subst (λ (i : ℕ). Contains (f i) y) place piece.there }
    ]
