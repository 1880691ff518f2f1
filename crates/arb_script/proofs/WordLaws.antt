-- Words with one space between them, read again.
use Rattle.std.proofs.Common.{◌≡◌, ℕ, ◌<◌, ◌^◌, List, [], ◌∷◌, ◌++◌, Bool, true, false, ◌==◌, not, refl, ◌∙◌, arith, tests, get_or}
use Rattle.std.specs.Prelude.{decimal}
use Rattle.std.specs.List.{join_with_byte, list_all, slice_split, All}
use Rattle.std.specs.Char.{is_ascii_digit}
use Rattle.std.proofs.lemmas.Bool.Decides.{nat_tests}
use Rattle.std.proofs.lemmas.Fmt.{decimal_nonempty}
use Rattle.std.proofs.lemmas.List.Folds.{list_all-append}
use Rattle.std.proofs.lemmas.List.Splits.{slice_split_at, slice_split_none}
use Rattle.std.proofs.lemmas.List.Sums.{AllPass-from_list_all, list_all-from_AllPass}
use Rattle.arb_share.specs.Text.{is_separator, line_feed, lines_of, space, words_of}
use Rattle.arb_share.proofs.TextLaws.{filter_full}
use Rattle.arb_model.specs.Texts.{dot}
use Rattle.arb_script.specs.Front.{is_plain}
use Rattle.arb_script.specs.Usual.{AreWords, IsWord, is_visible}
use Rattle.arb_script.proofs.NumberLaws.{decimal-digits}

-- a test that passes wherever another does
pub list_all-weaker : (p q : ℕ → Bool) → ((x : ℕ) → p x ≡ true → q x ≡ true) → (xs : List ℕ) → list_all p xs ≡ true → list_all q xs ≡ true
list_all-weaker p q weaker xs h = list_all-from_AllPass q xs (λ k d less. weaker _ (AllPass-from_list_all p xs h k d less))

digit-visible : (x : ℕ) → is_ascii_digit x ≡ true → is_visible x ≡ true
digit-visible x h = grind (arith, tests)

pub digit-no_dot : (byte : ℕ) → is_ascii_digit byte ≡ true → (byte == dot) ≡ false
digit-no_dot byte digit = grind (arith, tests)

-- a number in decimal is a word
pub IsWord-decimal : (n : ℕ) → n < 2 ^ 64 → IsWord (decimal n)
IsWord-decimal n h =
    record {
      some = decimal_nonempty n h;
      visible = list_all-weaker is_ascii_digit is_visible digit-visible (decimal n) (decimal-digits n h);
    }

visible-separates : (x : ℕ) → is_visible x ≡ true → is_separator x ≡ false
visible-separates x h = grind (arith, tests)

unseparated : (word : List ℕ) → IsWord word → All (λ byte. is_separator byte ≡ false) word
unseparated word w = λ k d h. visible-separates (get_or word k d) (AllPass-from_list_all is_visible word w.visible k d h)

-- words with one space between them are cut into the same words
pub words_of-join : (word : List ℕ) (words : List (List ℕ)) → IsWord word → AreWords words → words_of (join_with_byte space (word ∷ words)) ≡ word ∷ words
words_of-join word [] w ws = rw (slice_split_none is_separator word (unseparated word w)) (filter_full word [] w.some)
words_of-join word (next ∷ words) w ws =
    let rest = join_with_byte space (next ∷ words) in
    rw (slice_split_at is_separator word space rest (unseparated word w) refl, filter_full word (slice_split is_separator rest) w.some, words_of-join next words ws.0 ws.1) refl

-- whether a byte stands within a line
abbrev pub is_in_line : ℕ → Bool
is_in_line byte = not (byte == line_feed)

visible-plain : (x : ℕ) → is_visible x ≡ true → is_plain x ≡ true
visible-plain x h = grind (arith, tests)

plain-in_line : (x : ℕ) → is_plain x ≡ true → is_in_line x ≡ true
plain-in_line x h = grind (arith, tests)

-- such a line has plain bytes, which stand within it
pub join-plain : (word : List ℕ) (words : List (List ℕ)) → IsWord word → AreWords words → list_all is_plain (join_with_byte space (word ∷ words)) ≡ true
join-plain word [] w ws = list_all-weaker is_visible is_plain visible-plain word w.visible
join-plain word (next ∷ words) w ws =
    let front = list_all-weaker is_visible is_plain visible-plain word w.visible in
    list_all-append is_plain word (space ∷ join_with_byte space (next ∷ words)) ∙ rw front (join-plain next words ws.0 ws.1)

pub all_in_line : (line : List ℕ) → list_all is_plain line ≡ true → list_all is_in_line line ≡ true
all_in_line line plain = list_all-weaker is_plain is_in_line plain-in_line line plain

pub join-in_line : (word : List ℕ) (words : List (List ℕ)) → IsWord word → AreWords words → list_all is_in_line (join_with_byte space (word ∷ words)) ≡ true
join-in_line word words w ws = all_in_line (join_with_byte space (word ∷ words)) (join-plain word words w ws)

-- a text without LF, and LF, is one line
pub lines_of-one : (text : List ℕ) → list_all is_in_line text ≡ true → lines_of (text ++ (line_feed ∷ [])) ≡ text ∷ []
lines_of-one [] h = refl
lines_of-one (byte ∷ text) h = grind (arith, nat_tests, lines_of-one text)
