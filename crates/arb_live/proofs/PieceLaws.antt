-- What is kept of a line, as it grows.
use Rattle.std.proofs.Common.{◌≡◌, ℕ, ◌+◌, List, [], ◌∷◌, ◌++◌, inl, inr, length, take, min, sym, ap, ◌∙◌, arith, take_all}
use Rattle.std.proofs.lemmas.Bool.{cases_lt}
use Rattle.std.proofs.Math.Seq.{take-append-add}
use Rattle.arb_live.specs.Pieces.{kept}

-- no more than there is
pub take_least : (bytes : List ℕ) (most : ℕ) → take (min (length bytes) most) bytes ≡ take most bytes
take_least bytes most = elim (cases_lt most (length bytes)) [
  | inl more ↦ (let same : min (length bytes) most ≡ most = omega arith in ap (λ n. take n bytes) same)
  | inr all ↦ (let same : min (length bytes) most ≡ length bytes = omega arith in ap (λ n. take n bytes) same ∙ take_all (length bytes) bytes (omega arith) ∙ sym (take_all most bytes all))
]

-- as much more as there is room for
pub kept_more : (begun bytes : List ℕ) (room : ℕ) → length begun + room ≡ 201 → begun ++ take (min (length bytes) room) bytes ≡ kept (begun ++ bytes)
kept_more begun bytes room is =
    let whole : take (length begun + room) (begun ++ bytes) ≡ kept (begun ++ bytes) = ap (λ n. take n (begun ++ bytes)) is in
    let cut : take (min (length bytes) room) bytes ≡ take room bytes = take_least bytes room in
    ap (λ l. begun ++ l) cut ∙ sym (take-append-add begun bytes room) ∙ whole

-- of a line of which nothing was kept before
pub whole_line : (begun line : List ℕ) (most : ℕ) → length begun ≡ 0 → most ≡ min (length line) 201 → kept (begun ++ line) ≡ take most line
whole_line [] line most none is = sym (take_least line 201) ∙ ap (λ n. take n line) (sym is)
whole_line (x ∷ begun) line most none is = absurd (omega arith)
