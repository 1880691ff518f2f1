use Rattle.std.proofs.Common.{◌≡◌, ℕ, ◌-◌, ◌<◌, ◌≤◌, List, [], ◌∷◌, None, Bool, false, ◌==◌, length, get_or, take, drop, inl, inr, sym, ap, ◌∙◌, arith, tests, length-drop, drop-drop, rules}
use Rattle.std.specs.List.{position_or_len, slice_split, list_all, before_first, after_first}
use Rattle.std.specs.Char.{is_ascii_digit}
use Rattle.std.proofs.lemmas.Bool.{cases_lt, false_from_ne_true}
use Rattle.std.proofs.lemmas.List.Splits.{length-slice_split, slice_split_first, slice_split_none}
use Rattle.std.proofs.lemmas.List.Sums.{AllPass-from_list_all, fails_before_first, passes_at_first}
use Rattle.arb_share.specs.Limits.{applications}
use Rattle.arb_share.specs.Text.{number_of}
use Rattle.arb_model.specs.Limits.{threads}
use Rattle.arb_model.specs.Texts.{dot, clock_word}
use Rattle.arb_script.specs.Script.{thread_of, thread_in}
use Rattle.std.specs.Str.{bytes_eq}
use Rattle.arb_share.proofs.TextLaws.{take-drop_one}
use Rattle.arb_script.proofs.WordLaws.{digit-no_dot}
use Rattle.arb_script.proofs.line.read_client.Goals as goal

-- whether a byte is a dot
abbrev is_dot : ℕ → Bool
is_dot byte = byte == dot

-- a text with a dot isn't digits alone
dotted : (text : List ℕ) → position_or_len is_dot text < length text → list_all is_ascii_digit text ≡ false
dotted text found =
    let n = position_or_len is_dot text in
    false_from_ne_true _ (λ all. grind (arith, digit-no_dot (get_or text n 0) (AllPass-from_list_all is_ascii_digit text all n 0 found), passes_at_first is_dot text 0 found))

-- a text without one
undotted : (text : List ℕ) → length text ≤ position_or_len is_dot text → slice_split is_dot text ≡ text ∷ []
undotted text h = slice_split_none is_dot text (λ k d less. fails_before_first is_dot text k d (omega arith))

-- what follows the first dot is a thread's number where it has no other dot
behind : (app text : List ℕ) → thread_in (app ∷ slice_split is_dot text) ≡ thread_of (number_of (applications - 1) app) (number_of (threads - 1) text)
behind app text =
    elim (cases_lt (position_or_len is_dot text) (length text)) [
      | inl found ↦
          let none = dotted text found in
          rw none (grind (arith, slice_split_first is_dot text 0 found, length-slice_split is_dot (after_first is_dot text)))
      | inr past ↦ ap (λ parts. thread_in (app ∷ parts)) (undotted text past)
    ]

-- a word without a dot names no thread
thread_in-undotted : (word rest : List ℕ) → rest ≡ drop (position_or_len is_dot word) word → length rest < 1 → thread_in (slice_split is_dot word) ≡ None
thread_in-undotted word rest e none =
    ap thread_in (undotted word (omega (arith, ap length e, length-drop (position_or_len is_dot word) word)))

-- a word that is cut before its first dot
thread_in-dotted : (word app rest : List ℕ) → app ≡ take (position_or_len is_dot word) word → rest ≡ drop (position_or_len is_dot word) word → 1 ≤ length rest → thread_in (slice_split is_dot word) ≡ thread_of (number_of (applications - 1) app) (number_of (threads - 1) (drop 1 rest))
thread_in-dotted word app rest front back some =
    let found : position_or_len is_dot word < length word = omega (arith, ap length back, length-drop (position_or_len is_dot word) word) in
    let after : drop 1 rest ≡ after_first is_dot word = ap (drop 1) back ∙ drop-drop 1 (position_or_len is_dot word) word in
    rw (front, after) (ap thread_in (slice_split_first is_dot word 0 found) ∙ behind (before_first is_dot word) (after_first is_dot word))

pub returns-in-empty : goal.returns-in-empty
returns-in-empty c =
    let word = c.args.word.now in
    let other : bytes_eq word clock_word ≡ false = search (rules, tests) in
    rw other (sym (thread_in-undotted word c.split_at.result.1.now (c.split_at.ensures.back ∙ ap (λ n. drop n word) c.len_before.ensures.index) c.in-empty.len_below))

pub returns-in-len1-up : goal.returns-in-len1-up
returns-in-len1-up c =
    let word = c.args.word.now in
    let app = c.split_at.result.0.now in
    let rest = c.split_at.result.1.now in
    let other : bytes_eq word clock_word ≡ false = search (rules, tests) in
    let named = thread_in-dotted word app rest (c.split_at.ensures.front ∙ ap (λ n. take n word) c.len_before.ensures.index) (c.split_at.ensures.back ∙ ap (λ n. drop n word) c.len_before.ensures.index) c.in-len1-up.len_at_least in
    rw other (c.read_thread.ensures ∙ ap (λ text. thread_of (number_of (applications - 1) app) (number_of (threads - 1) text)) (take-drop_one rest) ∙ sym named)
