-- Laws of the sets of page words: what the rows that hold any place say of their places.
use Rattle.arb_seats.proofs.Words.{◌≡◌, ℕ, ◌+◌, ◌*◌, ◌/◌, ◌<◌, List, Some, None, true, false, arith, slice_index, ◌^◌, has_bit, has_mark, row_count, word_size, mark_count, first_below}
use Rattle.arb_seats.proofs.Words.{first_below-is, first_below-none_is}
use Rattle.std.proofs.Common.{lit<}
use Rattle.std.proofs.lemmas.Nat.Bits.{same_from_bits_below}
use Rattle.arb_seats.specs.PageMarks.{AreFilled}

module _ {rows : List ℕ} {filled : ℕ} (h : AreFilled rows filled) where
  empty_row : (v : ℕ) → v / word_size < row_count → has_bit filled (v / word_size) ≡ false → has_mark rows v ≡ false
  empty_row v few none = grind arith

  -- no place is in a set of which no row holds any
  pub none_filled : ((k : ℕ) → has_bit filled k ≡ false) → first_below (has_mark rows) mark_count ≡ None
  none_filled none = first_below-none_is (has_mark rows) mark_count (λ v less. empty_row v (omega arith) (none (v / word_size)))

  module _ (row : ℕ) (less : row < word_size) (full : has_bit filled row ≡ true) where
    -- a row that holds any place has a place
    pub filled_has : slice_index rows row < 2 ^ word_size → ((p : ℕ) → has_bit (slice_index rows row) p ≡ false) → ⊥
    filled_has fits none =
        let empty : slice_index rows row ≡ 0 = same_from_bits_below word_size (slice_index rows row) 0 fits (lit< tt) (λ p inside. grind arith) in
        grind arith

    -- the first place of the first row that holds any is the first place of the set
    pub first_filled : ((k : ℕ) → k < row → has_bit filled k ≡ false) → (p : ℕ) → p < word_size → has_bit (slice_index rows row) p ≡ true
        → ((q : ℕ) → q < p → has_bit (slice_index rows row) q ≡ false) → first_below (has_mark rows) mark_count ≡ Some (word_size * row + p)
    first_filled none p inside hit miss =
        let within : row < row_count = grind arith in
        first_below-is (has_mark rows) mark_count (word_size * row + p) (omega arith) (grind arith) (λ v low. grind arith)
