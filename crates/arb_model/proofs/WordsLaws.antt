-- Laws of the words: which core a place word names, and which stale word is next.
use Rattle.std.proofs.lemmas.Grind.{common_steps}
use Rattle.std.proofs.lemmas.Bool.Decides.{nat_tests}
use Rattle.std.proofs.Common.{◌≡◌, ℕ, ◌+◌, ◌<◌, List, get_or, arith, sym, ap, ◌∙◌, ◌⊎◌, Option, Some, None, Bool, true, false, not, inl, inr, slice_index, nat_lt, true≢false}
use Rattle.std.specs.Option.{option_or}
use Rattle.std.specs.Prelude.{◌==◌, if◌then◌else◌, sum}
use Rattle.std.specs.List.{position_or_len, range_with_len}
use Rattle.std.proofs.lemmas.Bool.{cases_lt, eqb-true, eq-eqb, ne_eqb, lt-ltb, le-ltb, ltb-true, not-false, and_parts, cond-true, cond-false, false≢true}
use Rattle.std.proofs.lemmas.List.{get_or_past}
use Rattle.std.proofs.lemmas.List.FromFn.{get_or-range_with_len, length-range_with_len}
use Rattle.std.proofs.lemmas.List.Sums.{position_or_len_is, passes_at_first, fails_before_first, get_or-le-sum_by}
use Rattle.arb_model.specs.declared.holders.Holder.{Holder}
use Rattle.arb_model.specs.Layout.{NamesACore, is_place_index, names_a_core, place_index, position_named, word_count}
use Rattle.arb_model.specs.Laws.{IsNext, IsFirst}
use Rattle.arb_model.specs.Posting.{first_below, is_stale, names_stale, next_stale_of}
use Rattle.arb_model.specs.Standing.{Seats, Standing, holder_at, is_held_by}
use Rattle.arb_model.specs.WellFormed.{times_on}
use Rattle.arb_model.specs.Words.{place_word, seat_word, word_of}

-- the core that a place word of a thread names
pub record NamesCore (s : Seats) (thread word : ℕ) : Type 0 where
  pub core : ℕ
  pub is : position_named word ≡ core
  pub held : is_held_by thread (holder_at s.cores core) ≡ true

pub names_core : (s : Seats) (thread : ℕ) → NamesACore (place_word s thread) → NamesCore s thread (place_word s thread)
names_core s thread h = grind (arith, nat_tests, common_steps, cond-true, lt-ltb, passes_at_first, cond-false, le-ltb)

-- a core has one holder
pub one_holder : (t u : ℕ) (core : Option Holder) → is_held_by t core ≡ true → is_held_by u core ≡ true → t ≡ u
one_holder t u core a b = grind (arith, nat_tests, false≢true, eqb-true)

-- place words of one standing name different cores
pub words_apart : (s : Seats) (t u : ℕ) → NamesACore (place_word s t) → NamesACore (place_word s u) → position_named (place_word s t) ≡ position_named (place_word s u) → t ≡ u
words_apart s t u a b e =
    let x = names_core s t a in
    let y = names_core s u b in
    let same : x.core ≡ y.core = omega (arith, x.is, y.is, e) in
    one_holder t u (holder_at s.cores y.core) (sym (ap (λ p. is_held_by t (holder_at s.cores p)) same) ∙ x.held) y.held

-- who is on a core is counted there
pub held_counts : (thread : ℕ) (cores : List (Option Holder)) (p : ℕ) → is_held_by thread (holder_at cores p) ≡ true → 0 < times_on thread cores
held_counts thread cores p h = grind (arith, nat_tests, common_steps, get_or-le-sum_by, false≢true, get_or_past)

-- a thread's word
pub word_of_place : (s : Standing) (thread : ℕ) → word_of s (place_index thread) ≡ place_word s.seats thread
word_of_place s thread = grind (arith, nat_tests, common_steps, ne_eqb, le-ltb)

pub fresh_is : (s : Standing) (posted : List ℕ) (w : ℕ) → is_stale s posted w ≡ false → slice_index posted w ≡ word_of s w
fresh_is s posted w h = eqb-true (slice_index posted w) (word_of s w) (not-false _ h)

pub stale_differs : (s : Standing) (posted : List ℕ) (w : ℕ) → is_stale s posted w ≡ true → slice_index posted w ≡ word_of s w → ⊥
stale_differs s posted w h e = true≢false (sym h ∙ ap not (eq-eqb (slice_index posted w) (word_of s w) e))

-- the first number below n that passes
if_some : (b : Bool) (i w : ℕ) → (if b then Some i else None) ≡ Some w → (b ≡ true) × (i ≡ w)
if_some b i w h = grind (arith, nat_tests, false≢true)

if_none : (b : Bool) (i : ℕ) → (if b then Some i else None) ≡ None → b ≡ false
if_none b i h = grind (arith, nat_tests, true≢false)

at_range : (passes : ℕ → Bool) (n k : ℕ) → k < n → passes (get_or (range_with_len 0 n) k 0) ≡ passes k
at_range passes n k h = let e : 0 + k ≡ k = omega arith in ap passes (get_or-range_with_len 0 n k 0 h ∙ e)

-- the number that is found is the first that passes
pub first_below_found : (passes : ℕ → Bool) (n w : ℕ) → first_below passes n ≡ Some w → (w < n) × IsFirst passes w
first_below_found passes n w h =
    let i : ℕ = position_or_len passes (range_with_len 0 n) in
    let r = if_some (nat_lt i n) i w h in
    let less : i < n = ltb-true i n r.0 in
    let hit : passes w ≡ true = sym (ap passes r.1) ∙ sym (at_range passes n i less) ∙ passes_at_first passes (range_with_len 0 n) 0 (omega (arith, less, length-range_with_len 0 n)) in
    (omega (arith, less, r.1), (hit, λ v before. sym (at_range passes n v (omega (arith, before, less, r.1))) ∙ fails_before_first passes (range_with_len 0 n) v 0 (omega (arith, before, r.1))))

pub first_below_none : (passes : ℕ → Bool) (n : ℕ) → first_below passes n ≡ None → (v : ℕ) → v < n → passes v ≡ false
first_below_none passes n h v less =
    let i : ℕ = position_or_len passes (range_with_len 0 n) in
    elim (cases_lt i n) [
      | inl inside ↦ absurd (true≢false (sym (lt-ltb i n inside) ∙ if_none (nat_lt i n) i h))
      | inr past ↦ sym (at_range passes n v less) ∙ fails_before_first passes (range_with_len 0 n) v 0 (omega (arith, less, past))
    ]

-- the first that passes, found
pub first_below-is : (passes : ℕ → Bool) (n w : ℕ) → w < n → passes w ≡ true → ((v : ℕ) → v < w → passes v ≡ false) → first_below passes n ≡ Some w
first_below-is passes n w less hit miss =
    let numbers : List ℕ = range_with_len 0 n in
    let at : position_or_len passes numbers ≡ w =
    position_or_len_is passes numbers w 0 (omega (arith, less, length-range_with_len 0 n))
    (λ k h. at_range passes n k (omega (arith, h, less)) ∙ miss k h) (λ _. at_range passes n w less ∙ hit) in
    ap (λ i. if nat_lt i n then Some i else None) at ∙ cond-true (nat_lt w n) (Some w) None (lt-ltb w n less)

-- none passes
pub first_below-none_is : (passes : ℕ → Bool) (n : ℕ) → ((v : ℕ) → v < n → passes v ≡ false) → first_below passes n ≡ None
first_below-none_is passes n miss =
    let numbers : List ℕ = range_with_len 0 n in
    let at : position_or_len passes numbers ≡ n =
    position_or_len_is passes numbers n 0 (omega (arith, length-range_with_len 0 n))
    (λ k h. at_range passes n k h ∙ miss k h) (λ h. absurd (omega (arith, h, length-range_with_len 0 n))) in
    ap (λ i. if nat_lt i n then Some i else None) at ∙ cond-false (nat_lt n n) (Some n) None (le-ltb n n (omega arith))

option_or_cases : (x y : Option ℕ) (w : ℕ) → option_or x y ≡ Some w → (x ≡ Some w) ⊎ ((x ≡ None) × (y ≡ Some w))
option_or_cases x y w h = grind (arith, nat_tests)

option_or_none : (x y : Option ℕ) → option_or x y ≡ None → (x ≡ None) × (y ≡ None)
option_or_none x y h = grind (arith, nat_tests, true≢false)

-- the next word is stale, and the first of its group
pub next_is : (s : Standing) (posted : List ℕ) (w : ℕ) → next_stale_of s posted ≡ Some w → IsNext s posted w
unfolding next_stale_of
next_is s posted w h =
    elim (option_or_cases (first_below (names_stale s posted) word_count) (first_below (is_stale s posted) word_count) w h) [
      | inl e ↦
          let r = first_below_found (names_stale s posted) word_count w e in
          let named = and_parts (names_a_core (slice_index posted w)) _ (and_parts (is_place_index w) _ r.1.0).1 in
          record { within = r.0; stale = named.1; turn = inl r.1 }
      | inr e ↦
          let r = first_below_found (is_stale s posted) word_count w e.1 in
          record { within = r.0; stale = r.1.0; turn = inr (first_below_none (names_stale s posted) word_count e.0, r.1) }
    ]

pub none_stale : (s : Standing) (posted : List ℕ) → next_stale_of s posted ≡ None → (v : ℕ) → v < word_count → slice_index posted v ≡ word_of s v
unfolding next_stale_of
none_stale s posted h v less =
    let r = option_or_none (first_below (names_stale s posted) word_count) (first_below (is_stale s posted) word_count) h in
    fresh_is s posted v (first_below_none (is_stale s posted) word_count r.1 v less)

-- a word but word 0 is that of the seats
pub word_of_seats : (s : Standing) (w : ℕ) → 0 < w → seat_word s.seats w ≡ word_of s w
word_of_seats s w some = sym (cond-false (w == 0) (sum s.counts) (seat_word s.seats w) (ne_eqb w 0 (λ e. absurd (omega (arith, e, some)))))
