-- Lists that loops build, piece by piece.
use Rattle.std.proofs.Common.{◌≡◌, ℕ, ◌+◌, ◌<◌, List, [], ◌∷◌, ◌++◌, zero, suc, sym, ap, ◌∙◌, arith, append_assoc, append-nil, length, get_or, take}
use Rattle.std.specs.Prelude.{map}
use Rattle.std.specs.List.{enumerate_from, flat_map, range_with_len}
use Rattle.std.proofs.lemmas.List.FromFn.{map-range_with_len_more}
use Rattle.std.proofs.lemmas.Grind.{flat_map-append}
use Rattle.std.proofs.lemmas.List.{flat_map_more, map_push}

-- one number more
pub range_more : (a n : ℕ) → range_with_len a (n + 1) ≡ range_with_len a n ++ (a + n) ∷ []
range_more a zero =
    let place : a ≡ a + 0 = omega arith in
    ap (λ (x : ℕ). x ∷ []) place
range_more a (suc n) =
    let more : suc n + 1 ≡ suc (n + 1) = omega arith in
    let place : a + 1 + n ≡ a + suc n = omega arith in
    ap (range_with_len a) more ∙ ap (λ xs. a ∷ xs) (range_more (a + 1) n ∙ ap (λ x. range_with_len (a + 1) n ++ x ∷ []) place)

-- the pieces of one number more
pub pieces_more : {A : Type 0} (f : ℕ → List A) (n : ℕ) → flat_map f (range_with_len 0 (n + 1)) ≡ flat_map f (range_with_len 0 n) ++ f n
pieces_more f n =
    let place : 0 + n ≡ n = omega arith in
    ap (flat_map f) (range_more 0 n) ∙ flat_map-append f (range_with_len 0 n) ((0 + n) ∷ []) ∙ ap (λ xs. flat_map f (range_with_len 0 n) ++ xs) (append-nil (f (0 + n)) ∙ ap f place)

-- a list is an older one with the pieces before an index, and the next piece comes
pub built_more : {A : Type 0} (f : ℕ → List A) (n : ℕ) (old now next : List A) → now ≡ old ++ flat_map f (range_with_len 0 n) → next ≡ now ++ f n → next ≡ old ++ flat_map f (range_with_len 0 (n + 1))
built_more f n old now next is more =
    more ∙ ap (λ xs. xs ++ f n) is ∙ append_assoc old (flat_map f (range_with_len 0 n)) (f n) ∙ ap (λ xs. old ++ xs) (sym (pieces_more f n))

-- a list has the pieces before an index, and the next piece comes
pub pieces_next : {A : Type 0} (f : ℕ → List A) (n : ℕ) (now next : List A) → now ≡ flat_map f (range_with_len 0 n) → next ≡ now ++ f n → next ≡ flat_map f (range_with_len 0 (n + 1))
pieces_next f n now next is more = more ∙ (ap (λ xs. xs ++ f n) is ∙ sym (pieces_more f n))

-- a list has the values before an index, and the next value comes
pub values_next : {A : Type 0} (f : ℕ → A) (n : ℕ) (now next : List A) → now ≡ map f (range_with_len 0 n) → next ≡ now ++ f n ∷ [] → next ≡ map f (range_with_len 0 (n + 1))
values_next f n now next is more = more ∙ (ap (λ xs. xs ++ f n ∷ []) is ∙ sym (map-range_with_len_more f 0 n n (omega arith)))

-- the numbered elements before an index, and the next one
pub numbered_more : {X : Type 0} (a : ℕ) (xs : List X) (n : ℕ) (d : X) → n < length xs → enumerate_from a (take (n + 1) xs) ≡ enumerate_from a (take n xs) ++ (a + n, get_or xs n d) ∷ []
numbered_more a [] n d h = absurd (omega arith)
numbered_more a (x ∷ xs) zero d h =
    let place : a ≡ a + 0 = omega arith in
    ap (λ (i : ℕ). (i, x) ∷ []) place
numbered_more a (x ∷ xs) (suc n) d h =
    let more : suc n + 1 ≡ suc (n + 1) = omega arith in
    let place : a + 1 + n ≡ a + suc n = omega arith in
    ap (λ i. enumerate_from a (take i (x ∷ xs))) more
    ∙ ap (λ ys. (a, x) ∷ ys) (numbered_more (a + 1) xs n d (omega arith) ∙ ap (λ i. enumerate_from (a + 1) (take n xs) ++ (i, get_or xs n d) ∷ []) place)

-- a list is an older one with the pieces of the numbered elements before an index, and the next piece comes
pub numbered_next : {X A : Type 0} (f : ℕ × X → List A) (xs : List X) (n : ℕ) (d : X) (old now next : List A) → n < length xs → now ≡ old ++ flat_map f (enumerate_from 0 (take n xs)) → next ≡ now ++ f (n, get_or xs n d) → next ≡ old ++ flat_map f (enumerate_from 0 (take (n + 1) xs))
numbered_next f xs n d old now next within is more =
    let place : 0 + n ≡ n = omega arith in
    more ∙ (ap (λ ys. ys ++ f (n, get_or xs n d)) is
    ∙ (flat_map_more f old (enumerate_from 0 (take n xs)) (n, get_or xs n d)
    ∙ ap (λ ys. old ++ flat_map f ys) (sym (numbered_more 0 xs n d within ∙ ap (λ i. enumerate_from 0 (take n xs) ++ (i, get_or xs n d) ∷ []) place))))

-- a list is an older one with the values of the numbered elements before an index, and the next value comes
pub entries_next : {X A : Type 0} (f : ℕ × X → A) (xs : List X) (n : ℕ) (d : X) (old now next : List A) → n < length xs → now ≡ old ++ map f (enumerate_from 0 (take n xs)) → next ≡ now ++ f (n, get_or xs n d) ∷ [] → next ≡ old ++ map f (enumerate_from 0 (take (n + 1) xs))
entries_next f xs n d old now next within is more =
    let place : 0 + n ≡ n = omega arith in
    more ∙ (ap (λ ys. ys ++ f (n, get_or xs n d) ∷ []) is
    ∙ (append_assoc old (map f (enumerate_from 0 (take n xs))) (f (n, get_or xs n d) ∷ [])
    ∙ ap (λ ys. old ++ ys) (sym (ap (map f) (numbered_more 0 xs n d within ∙ ap (λ i. enumerate_from 0 (take n xs) ++ (i, get_or xs n d) ∷ []) place) ∙ map_push f (enumerate_from 0 (take n xs)) (n, get_or xs n d)))))
