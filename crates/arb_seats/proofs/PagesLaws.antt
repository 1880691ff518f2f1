-- Laws of the page words: the marks of the stale words, and the word that they give next.
use Rattle.arb_seats.proofs.Words.{◌≡◌, ℕ, ◌+◌, ◌-◌, ◌*◌, ◌<◌, ◌≤◌, List, Option, Some, None, Bool, true, false, not, refl, sym, ap, arith, ◌∙◌, slice_index, slice_set, nat_le, nat_lt, replicate}
use Rattle.arb_seats.proofs.Words.{◌==◌, ◌&&◌, if◌then◌else◌, false≢true}
use Rattle.arb_seats.proofs.Words.{get_or-same, length-replicate, written, inl, inr, cases_lt, has_mark, mark_at, mark_count, AreMarked, PageWords, is_stale_in, names_core, names_stale_in}
use Rattle.arb_seats.proofs.Words.{and_false, first_place, word_count}
use Rattle.arb_seats.proofs.BitsLaws.{has_bit-zero}
use Rattle.arb_seats.proofs.Words.{first_below, first_below-is, first_below-none_is, first_below_found, first_below_none}
use Rattle.std.specs.Option.{option_or}
use Rattle.arb_seats.specs.PageWords.{next_stale_in}
use Rattle.arb_model.specs.Posting.{is_stale, names_stale, next_stale_of}
use Rattle.arb_model.specs.Standing.{Standing}
use Rattle.arb_model.specs.Words.{word_of}

-- tests that agree below m, where one of them fails from m on, have the same first number
first_below-agree : (f g : ℕ → Bool) (m n : ℕ) → m ≤ n → ((w : ℕ) → w < m → f w ≡ g w) → ((w : ℕ) → m ≤ w → w < n → f w ≡ false) → first_below f n ≡ first_below g m
first_below-agree f g m n le same past = at (first_below g m) refl
  where
    at : (found : Option ℕ) → first_below g m ≡ found → first_below f n ≡ found
    at None is = first_below-none_is f n (grind (arith, same, past, first_below_none g m is))
    at (Some w) is = let found = first_below_found g m w is in first_below-is f n w (omega (arith, found.0)) (grind (arith, same, found)) (grind (arith, same, found))

-- one place of a set of words is in it or not, and each other place is as before
abbrev pub MarksAt : (w : ℕ) → Bool → (old new : List ℕ) → Type 0
MarksAt w on old new = (v : ℕ) → v < mark_count → has_mark new v ≡ (if v == w then on else has_mark old v)

-- whose mark stands at a place, where so many words have a mark in front
abbrev pub word_at : (n v : ℕ) → ℕ
word_at n v = if nat_lt v n then v else v - n

word_at-low : (n v : ℕ) → v < n → word_at n v ≡ v
word_at-low n v low = grind arith

word_at-high : (n v w : ℕ) → v ≡ n + w → word_at n v ≡ w
word_at-high n v w high = grind arith

-- the marks after a word of the standing is set
pub set_marked : {pages : PageWords} {marks after : List ℕ} (w value : ℕ) → AreMarked pages marks → 0 < w → w < word_count
    → MarksAt (mark_at w (slice_index pages.posted w)) (not (slice_index pages.posted w == value)) marks after
    → AreMarked (record pages { words = slice_set pages.words w value }) after
set_marked w value h some within mark = grind (arith, written)

-- a word that is no place word names no core, before and after
pub release_marked : {pages : PageWords} {marks after : List ℕ} (w value : ℕ) → AreMarked pages marks → 0 < w → w < word_count → nat_le first_place w ≡ false
    → MarksAt (word_count + w) (not (slice_index pages.posted w == value)) marks after → AreMarked (record pages { words = slice_set pages.words w value }) after
release_marked w value h some within release mark = set_marked w value h some within (grind arith)

-- another word's marks stand elsewhere
mark_at-other : (n w v : ℕ) (names : Bool) → w < n → v < n → (v == w) ≡ false → ((v == (if names then w else n + w)) ≡ false) × ((n + v == (if names then w else n + w)) ≡ false)
mark_at-other n w v true inside less other = grind arith
mark_at-other n w v false inside less other = grind arith

fresh : (p q : Bool) (x y : ℕ) → x ≡ y → (p && (q && not (x == y))) ≡ false
fresh p q x y same = grind (arith, same, and_false)

second : (a b : Bool) → (not a && b) ≡ true → b ≡ true
second a b both = grind (arith, both)

-- the marks after a word is posted
pub post_marked : {pages : PageWords} {marks after : List ℕ} (w : ℕ) → AreMarked pages marks → w < word_count
    → MarksAt (mark_at w (slice_index pages.posted w)) false marks after
    → AreMarked (record pages { posted = slice_set pages.posted w (slice_index pages.words w) }) after
post_marked {pages} {marks} {after} w h within mark =
    record { words = h.words; posted = grind (arith, h.posted, written); counted = counted; namings = namings; others = others; past = λ v from less. grind (arith, mark v less, h.past v from less) }
  where
    posted : List ℕ
    posted = slice_set pages.posted w (slice_index pages.words w)

    here : slice_index posted w ≡ slice_index pages.words w
    here = grind (arith, h.posted, within, written)

    there : (v : ℕ) → (v == w) ≡ false → slice_index posted v ≡ slice_index pages.posted v
    there v other = grind (arith, other, written)

    counted : slice_index pages.words 0 ≡ slice_index posted 0
    counted = grind (arith, here, there 0, h.counted)

    -- neither of its two marks is left
    gone : (has_mark after w ≡ false) × (has_mark after (word_count + w) ≡ false)
    gone = grind (arith, within, mark w, mark (word_count + w), h.namings w within, h.others w within)

    elsewhere : (v : ℕ) → v < word_count → (v == w) ≡ false
        → ((v == mark_at w (slice_index pages.posted w)) ≡ false) × ((word_count + v == mark_at w (slice_index pages.posted w)) ≡ false)
    elsewhere v less other = mark_at-other word_count w v (names_core w (slice_index pages.posted w)) within less other

    namings : (v : ℕ) → v < word_count → has_mark after v ≡ names_stale_in (record pages { posted = posted }) v
    namings v less = at (v == w) refl
      where
        at : (same : Bool) → (v == w) ≡ same → has_mark after v ≡ names_stale_in (record pages { posted = posted }) v
        at true same =
            let it : v ≡ w = grind (arith, same) in
            ap (has_mark after) it ∙ gone.0 ∙ sym (fresh _ _ _ _ (ap (slice_index posted) it ∙ here ∙ ap (slice_index pages.words) (sym it)))
        at false same = grind (arith, same, less, mark v, elsewhere v less same, there v same, h.namings v less)

    others : (v : ℕ) → v < word_count → has_mark after (word_count + v) ≡ (not (names_core v (slice_index posted v)) && is_stale_in (record pages { posted = posted }) v)
    others v less = at (v == w) refl
      where
        at : (same : Bool) → (v == w) ≡ same → has_mark after (word_count + v) ≡ (not (names_core v (slice_index posted v)) && is_stale_in (record pages { posted = posted }) v)
        at true same =
            let it : v ≡ w = grind (arith, same) in
            ap (λ u. has_mark after (word_count + u)) it ∙ gone.1 ∙ sym (fresh true _ _ _ (ap (slice_index posted) it ∙ here ∙ ap (slice_index pages.words) (sym it)))
        at false same = grind (arith, same, less, mark (word_count + v), elsewhere v less same, there v same, h.others v less)

-- no word is marked where all are 0
pub none_marked : (n m : ℕ) → n ≡ word_count → AreMarked (record { words = replicate n 0; posted = replicate n 0 }) (replicate m 0)
none_marked n m e =
    let zeros : (w : ℕ) → slice_index (replicate n 0) w ≡ 0 = λ w. grind (arith, get_or-same) in
    let clear : (v : ℕ) → has_mark (replicate m 0) v ≡ false = λ v. grind (arith, get_or-same, has_bit-zero) in
    record {
      words = grind (arith, e, length-replicate);
      posted = grind (arith, e, length-replicate);
      counted = refl;
      namings = λ w _. grind (arith, clear w, zeros w, and_false);
      others = λ w _. grind (arith, clear (word_count + w), zeros w, and_false);
      past = λ v _ _. clear v;
    }

module _ {pages : PageWords} {marks : List ℕ} (h : AreMarked pages marks) where
  -- a word without either mark isn't stale
  pub unmarked : (w : ℕ) → w < word_count → has_mark marks w ≡ false → has_mark marks (word_count + w) ≡ false → is_stale_in pages w ≡ false
  unmarked w less low high = at (names_core w (slice_index pages.posted w)) refl (sym (h.namings w less) ∙ low) (sym (h.others w less) ∙ high)
    where
      at : (names : Bool) → names_core w (slice_index pages.posted w) ≡ names → names_stale_in pages w ≡ false
          → (not (names_core w (slice_index pages.posted w)) && is_stale_in pages w) ≡ false → is_stale_in pages w ≡ false
      at true is naming other = grind (arith, is, naming)
      at false is naming other = grind (arith, is, other)

  -- where no mark is set no word is stale
  pub next_none : None ≡ first_below (has_mark marks) mark_count → None ≡ next_stale_in pages
  unfolding next_stale_in
  next_none is =
      let none = first_below_none (has_mark marks) mark_count (sym is) in
      sym (λ j. option_or
      (first_below-none_is (names_stale_in pages) word_count (λ w less. sym (h.namings w less) ∙ none w (omega (arith, less))) j)
      (first_below-none_is (is_stale_in pages) word_count (λ w less. unmarked w less (none w (omega (arith, less))) (none (word_count + w) (omega (arith, less)))) j))

  -- the first mark is one of a page word
  pub first_within : (v : ℕ) → Some v ≡ first_below (has_mark marks) mark_count → v < 2 * word_count
  first_within v first = let found = first_below_found (has_mark marks) mark_count v (sym first) in grind (arith, h.past v, found.0, found.1.0)

  -- a mark stands where the one of its word does
  pub mark_is : (v : ℕ) → v < mark_count → has_mark marks v ≡ true → mark_at (word_at word_count v) (slice_index pages.posted (word_at word_count v)) ≡ v
  mark_is v inside hit =
      elim (cases_lt v word_count) [
        | inl low ↦ grind (arith, low, hit, h.namings v low)
        | inr past ↦ elim (cases_lt (v - word_count) word_count) [
          | inl less ↦ grind (arith, past, hit, h.others (v - word_count) less)
          | inr over ↦ grind (arith, over, hit, h.past v)
        ]
      ]

  -- the first mark is that of the next stale word
  pub next_some : (v : ℕ) → Some v ≡ first_below (has_mark marks) mark_count → Some (word_at word_count v) ≡ next_stale_in pages
  unfolding next_stale_in
  next_some v is =
      elim (cases_lt v word_count) [
        | inl low ↦ ap Some (word_at-low word_count v low) ∙ naming_first low
        | inr high ↦ ap Some (word_at-high word_count v (v - word_count) (omega (arith, high))) ∙ other_first (v - word_count) (omega (arith, high))
      ]
    where
      found : (v < mark_count) × ((has_mark marks v ≡ true) × ((u : ℕ) → u < v → has_mark marks u ≡ false))
      found = first_below_found (has_mark marks) mark_count v (sym is)

      naming_first : v < word_count → Some v ≡ option_or (first_below (names_stale_in pages) word_count) (first_below (is_stale_in pages) word_count)
      naming_first low =
          let at : first_below (names_stale_in pages) word_count ≡ Some v =
          first_below-is (names_stale_in pages) word_count v low (sym (h.namings v low) ∙ found.1.0) (λ u less. sym (h.namings u (omega (arith, less, low))) ∙ found.1.1 u less) in
          λ j. option_or (sym at j) (first_below (is_stale_in pages) word_count)

      other_first : (w : ℕ) → v ≡ word_count + w → Some w ≡ option_or (first_below (names_stale_in pages) word_count) (first_below (is_stale_in pages) word_count)
      other_first w high =
          let hit : has_mark marks (word_count + w) ≡ true = ap (has_mark marks) (sym high) ∙ found.1.0 in
          let within : w < word_count = elim (cases_lt w word_count) [
            | inl less ↦ less
            | inr past ↦ absurd (false≢true (sym (h.past v (omega (arith, past, high)) found.0) ∙ found.1.0))
          ] in
          let none : first_below (names_stale_in pages) word_count ≡ None =
          first_below-none_is (names_stale_in pages) word_count (λ u less. sym (h.namings u less) ∙ found.1.1 u (omega (arith, less, high))) in
          let at : first_below (is_stale_in pages) word_count ≡ Some w =
          first_below-is (is_stale_in pages) word_count w within (second (names_core w (slice_index pages.posted w)) (is_stale_in pages w) (sym (h.others w within) ∙ hit))
          (λ u less. unmarked u (omega (arith, less, within)) (found.1.1 u (omega (arith, less, high, within))) (found.1.1 (word_count + u) (omega (arith, less, high)))) in
          λ j. option_or (sym none j) (sym at j)

-- where the page words are those of a standing, its next stale word is theirs
pub next_stale_in-is : (s : Standing) (pages : PageWords) → ((w : ℕ) → w < word_count → slice_index pages.words w ≡ word_of s w) → next_stale_in pages ≡ next_stale_of s pages.posted
unfolding next_stale_in next_stale_of
next_stale_in-is s pages same =
    λ j. option_or
    (first_below-agree (names_stale_in pages) (names_stale s pages.posted) word_count word_count (omega arith) (grind arith) (grind arith) j)
    (first_below-agree (is_stale_in pages) (is_stale s pages.posted) word_count word_count (omega arith) (grind arith) (grind arith) j)
