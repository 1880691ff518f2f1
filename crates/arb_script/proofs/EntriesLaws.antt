-- The words of a line, read one after another as entries.
use Rattle.std.proofs.Common.{◌≡◌, ℕ, ◌+◌, ◌<◌, ◌≤◌, List, [], ◌∷◌, ◌++◌, Some, None, true, length, slice_index, set, replicate, refl, sym, ap, ◌∙◌, zero, suc, get_or, arith, tests, append_assoc, length-append}
use Rattle.std.specs.List.{join_with_byte, list_all}
use Rattle.std.specs.Char.{is_ascii_digit}
use Rattle.std.proofs.lemmas.Bool.Decides.{nat_tests}
use Rattle.std.proofs.lemmas.List.Sums.{AllPass-from_list_all, list_all-from_AllPass}
use Rattle.arb_share.specs.Limits.{levels, max_entry, max_entry_word}
use Rattle.arb_share.specs.Rows.{entry_fault}
use Rattle.arb_share.specs.Text.{line_feed, number_of, space}
use Rattle.arb_share.proofs.RowsLaws.{ReadsEntries, ReadsEntries-next, ReadsEntries-end}
use Rattle.arb_script.specs.Usual.{AreEntries, BeginsWithLine, BeginsWithNumber, IsWord, is_visible}

-- words are read into the entries, and a line from here on is a line with them in front
pub record ReadsOn (start rest : List ℕ) (entries : List ℕ) (level : ℕ) : Type 0 where
  pub done : List (List ℕ)
  pub count : length done ≡ level
  pub ahead : (words : List (List ℕ)) (after : List ℕ) → BeginsWithLine rest words after → BeginsWithLine start (done ++ words) after
  pub reads : (words : List (List ℕ)) → length done + length words ≤ levels → ReadsEntries (done ++ words) words entries level

blank : (n k : ℕ) → slice_index (replicate n 0) k ≡ 0
blank zero k = refl
blank (suc n) zero = refl
blank (suc n) (suc k) = blank n k

pub ReadsOn-none : (text : List ℕ) → ReadsOn text text (replicate levels 0) 0
ReadsOn-none text =
    record {
      done = [];
      count = refl;
      ahead = λ words after line. line;
      reads = λ words few. record {
        whole = refl;
        behind = refl;
        so_far = omega arith;
        fault = refl;
        read = λ k less. absurd (omega (arith, less));
        missing = λ k less. blank levels k;
        small = λ k. omega (arith, blank levels k);
      };
    }

-- what is left of a line without its first word is a line
pub line_more : (text word rest : List ℕ) (words : List (List ℕ)) (after : List ℕ) → text ≡ word ++ space ∷ rest → IsWord word → BeginsWithLine rest words after → BeginsWithLine text (word ∷ words) after
line_more text word rest [] after is w line = absurd (omega (arith, line.some))
line_more text word rest (next ∷ words) after is w line =
    record {
      is = is ∙ ap (λ behind. word ++ space ∷ behind) line.is ∙ sym (append_assoc word (space ∷ join_with_byte space (next ∷ words)) (line_feed ∷ after));
      parts = (w, line.parts);
      some = omega arith;
    }

-- a word alone is a line
pub line_one : (text word after : List ℕ) → text ≡ word ++ line_feed ∷ after → IsWord word → BeginsWithLine text (word ∷ []) after
line_one text word after is w = record { is = is; parts = (w, tt); some = omega arith }

-- digits are visible, and a number has some
digit-visible : (x : ℕ) → is_ascii_digit x ≡ true → is_visible x ≡ true
digit-visible x h = grind (arith, tests)

pub word_of_number : (most : ℕ) (word : List ℕ) (value : ℕ) → list_all is_ascii_digit word ≡ true → number_of most word ≡ Some value → IsWord word
word_of_number most [] value digits writes = grind (arith, nat_tests)
word_of_number most (byte ∷ word) value digits writes =
    record {
      some = omega arith;
      visible = list_all-from_AllPass is_visible (byte ∷ word) (λ k d less. digit-visible (get_or (byte ∷ word) k d) (AllPass-from_list_all is_ascii_digit (byte ∷ word) digits k d less));
    }

no_fault : (level : ℕ) (word : List ℕ) (value : ℕ) → number_of max_entry_word word ≡ Some value → value ≤ max_entry → entry_fault level word ≡ None
no_fault level word value writes small = grind (arith, nat_tests)

-- one more word is read, which isn't the last
pub ReadsOn-next : (start rest after entries : List ℕ) (level value : ℕ) → ReadsOn start rest entries level → BeginsWithNumber max_entry_word rest value space after → value ≤ max_entry → ReadsOn start after (set entries level value) (level + 1)
ReadsOn-next start rest after entries level value r number small =
    let word : List ℕ = number.word in
    let w : IsWord word = word_of_number max_entry_word word value number.digits number.writes in
    record {
      done = r.done ++ word ∷ [];
      count = omega (arith, length-append r.done (word ∷ []), r.count);
      ahead = λ words end line. rw (append_assoc r.done (word ∷ []) words) (r.ahead (word ∷ words) end (line_more rest word after words end number.is w line));
      reads = λ words few.
          let more : length r.done + length (word ∷ words) ≤ levels = omega (arith, few, length-append r.done (word ∷ [])) in
          let long : length (r.done ++ word ∷ words) ≤ levels = omega (arith, more, length-append r.done (word ∷ words)) in
          rw (append_assoc r.done (word ∷ []) words)
          (ReadsEntries-next (r.done ++ word ∷ words) (word ∷ words) words entries word level value (r.reads (word ∷ words) more) refl long (no_fault level word value number.writes small) number.writes small);
    }

-- the last word
pub ReadsOn-last : (start rest after entries : List ℕ) (level value : ℕ) → ReadsOn start rest entries level → level < levels → BeginsWithNumber max_entry_word rest value line_feed after → value ≤ max_entry → AreEntries start (set entries level value) after
ReadsOn-last start rest after entries level value r room number small =
    let word : List ℕ = number.word in
    let w : IsWord word = word_of_number max_entry_word word value number.digits number.writes in
    let words : List (List ℕ) = r.done ++ word ∷ [] in
    let few : length words ≤ levels = omega (arith, length-append r.done (word ∷ []), r.count, room) in
    let more : length r.done + length (word ∷ []) ≤ levels = omega (arith, r.count, room) in
    let read = ReadsEntries-next words (word ∷ []) [] entries word level value (r.reads (word ∷ []) more) refl few (no_fault level word value number.writes small) number.writes small in
    let end = ReadsEntries-end words [] (set entries level value) (level + 1) read refl few in
    record {
      words = words;
      line = r.ahead (word ∷ []) after (line_one rest word after number.is w);
      few = few;
      faultless = end.0;
      written = end.1;
    }
