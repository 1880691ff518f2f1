-- Before all orders all words are 0, so none is stale.
use Rattle.std.proofs.lemmas.Bool.Decides.{nat_tests}
use Rattle.std.proofs.Common.{◌≡◌, ℕ, ◌+◌, ◌*◌, ◌<◌, List, length, replicate, arith, sym, ap, ◌∙◌, Option, None, false, inl, inr, slice_index, nat_lt}
use Rattle.std.specs.Prelude.{if◌then◌else◌}
use Rattle.std.specs.List.{position_or_len}
use Rattle.std.specs.Option.{option_or}
use Rattle.std.proofs.lemmas.Bool.{cases_lt, cond-true, cond-false, eq-eqb, false≢true, lt-ltb, le-ltb}
use Rattle.std.proofs.lemmas.List.{get_or-replicate}
use Rattle.std.proofs.lemmas.List.Folds.{sum_by-replicate}
use Rattle.std.proofs.lemmas.List.Sums.{passes_at_first}
use Rattle.arb_config.specs.Machine.{Machine}
use Rattle.arb_model.specs.declared.holders.Holder.{Holder}
use Rattle.arb_model.specs.HistoryLaws.{OpensSettled}
use Rattle.arb_model.specs.Layout.{word_count}
use Rattle.arb_model.specs.Lists.{one_if}
use Rattle.arb_model.specs.Posting.{first_below, is_stale, names_stale, next_stale_of}
use Rattle.arb_model.specs.Standing.{Standing, holder_at, is_asked, is_held_by, is_moved, nobody, opening}
use Rattle.arb_model.specs.Words.{place_word, release_word, seat_word, word_of}
use Rattle.arb_model.proofs.CountLaws.{and_false}
use Rattle.arb_model.proofs.WordsLaws.{first_below-none_is, word_of_seats}
use Rattle.arb_model.proofs.ListLaws.{get_or-same}

-- each core of nobody is free
free_there : (n p : ℕ) → holder_at (replicate n None) p ≡ None
free_there n p = get_or-same n p None

-- so none is asked back
release_zero : (n app half : ℕ) → release_word (nobody n) app half ≡ 0
release_zero n app half = grind (arith, nat_tests, free_there)

-- and no thread is anywhere
place_zero : (n thread : ℕ) → place_word (nobody n) thread ≡ 0
place_zero n thread =
    let free : Option Holder = None in
    let cores : List (Option Holder) = replicate n free in
    let p : ℕ = position_or_len (is_held_by thread) cores in
    let on : ℕ = 4 + 2 * p + one_if (is_asked (holder_at cores p)) in
    let moved : is_moved (nobody n) thread ≡ false = get_or-same 512 thread false in
    elim (cases_lt p (length cores)) [
      | inl less ↦ absurd (false≢true (sym (ap (is_held_by thread) (free_there n p)) ∙ passes_at_first (is_held_by thread) cores None less))
      | inr past ↦ cond-false (nat_lt p (length cores)) on (if is_moved (nobody n) thread then 2 else 0) (le-ltb p (length cores) past) ∙ cond-false (is_moved (nobody n) thread) 2 0 moved
    ]

seat_zero : (n w : ℕ) → seat_word (nobody n) w ≡ 0
seat_zero n w = grind (arith, nat_tests, cond-true, lt-ltb, release_zero, cond-false, le-ltb, place_zero)

-- in the opening standing all words are 0
pub opening_zero : (m : Machine) (w : ℕ) → word_of (opening m) w ≡ 0
opening_zero m w = grind (arith, nat_tests, sum_by-replicate, word_of_seats, seat_zero)

-- where the first n words are those of the standing, none of them is next
none_next : (s : Standing) (posted : List ℕ) (n : ℕ) → ((w : ℕ) → w < n → slice_index posted w ≡ word_of s w) → option_or (first_below (names_stale s posted) n) (first_below (is_stale s posted) n) ≡ None
none_next s posted n same = grind (arith, nat_tests, eq-eqb, and_false, first_below-none_is)

pub opening_settled : OpensSettled
unfolding next_stale_of
opening_settled m = none_next (opening m) (replicate word_count 0) word_count (λ w less. get_or-replicate {A = ℕ} word_count w 0 0 less ∙ sym (opening_zero m w))
