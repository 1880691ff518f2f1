-- Lines of a text that comes in pieces.
use Rattle.std.proofs.Common.{◌≡◌, ℕ, ◌+◌, ◌-◌, ◌<◌, ◌≤◌, ◌==◌, List, [], ◌∷◌, ◌++◌, Bool, true, false, cond, map, length, take, drop, get_or, suc, refl, inl, inr, sym, ap, ◌∙◌, arith, tests, append_assoc, append-nil, drop-drop, length-take, length-drop, take_all}
use Rattle.std.specs.List.{list_all, onto_first}
use Rattle.std.proofs.lemmas.Bool.{cases_lt, eqb-true}
use Rattle.std.proofs.lemmas.Bool.Decides.{nat_tests}
use Rattle.std.proofs.lemmas.List.{map-append, take-append-drop, take-append-le, take-take, take_more}
use Rattle.std.proofs.lemmas.List.Sums.{passes_at_first}
use Rattle.std.proofs.Math.Seq.{drop-append-add, take-append-add}
use Rattle.arb_share.specs.Text.{line_feed, lines_of}
use Rattle.arb_share.proofs.TextLaws.{empty-is, line_end, take-drop_one}
use Rattle.arb_script.proofs.WordLaws.{is_in_line}
use Rattle.arb_live.specs.Live.{completed, complete_lines}
use Rattle.arb_live.specs.Pieces.{after_line, begun_after, first_line, kept, kept_lines, last_line}

-- what is kept of a line is kept of what is kept of its prefix
pub kept_again : (line more : List ℕ) → kept (kept line ++ more) ≡ kept (line ++ more)
kept_again line more = elim (cases_lt (length line) 201) [
  | inl short ↦ ap (λ l. take 201 (l ++ more)) (take_all 201 line (omega arith))
  | inr long ↦ (
      let cut : length (take 201 line) ≡ 201 = omega (arith, length-take 201 line) in
      take-append-le 201 (take 201 line) more (omega arith) ∙ take-take 201 201 line (omega arith) ∙ sym (take-append-le 201 line more (omega arith))
      )
]

pub kept_lines-append : (begun xs ys : List ℕ) → kept_lines begun (xs ++ ys) ≡ kept_lines begun xs ++ kept_lines (begun_after begun xs) ys
kept_lines-append begun [] ys = refl
kept_lines-append begun (x ∷ xs) ys =
    elim (x == line_feed) as (λ b. cond b (begun ∷ kept_lines [] (xs ++ ys)) (kept_lines (kept (begun ++ x ∷ [])) (xs ++ ys)) ≡ cond b (begun ∷ kept_lines [] xs) (kept_lines (kept (begun ++ x ∷ [])) xs) ++ kept_lines (cond b (begun_after [] xs) (begun_after (kept (begun ++ x ∷ [])) xs)) ys) [
      | true ↦ ap (λ l. begun ∷ l) (kept_lines-append [] xs ys)
      | false ↦ kept_lines-append (kept (begun ++ x ∷ [])) xs ys
    ]

pub begun_after-append : (begun xs ys : List ℕ) → begun_after begun (xs ++ ys) ≡ begun_after (begun_after begun xs) ys
begun_after-append begun [] ys = refl
begun_after-append begun (x ∷ xs) ys =
    elim (x == line_feed) as (λ b. cond b (begun_after [] (xs ++ ys)) (begun_after (kept (begun ++ x ∷ [])) (xs ++ ys)) ≡ begun_after (cond b (begun_after [] xs) (begun_after (kept (begun ++ x ∷ [])) xs)) ys) [
      | true ↦ begun_after-append [] xs ys
      | false ↦ begun_after-append (kept (begun ++ x ∷ [])) xs ys
    ]

-- what is kept of the lines that a text completes, by how much of a line was kept before it
kept_completed : (begun text : List ℕ) → kept_lines (kept begun) text ≡ map kept (completed begun text)
kept_completed begun [] = refl
kept_completed begun (x ∷ text) =
    elim (x == line_feed) as (λ b. cond b (kept begun ∷ kept_lines [] text) (kept_lines (kept (kept begun ++ x ∷ [])) text) ≡ map kept (cond b (begun ∷ completed [] text) (completed (begun ++ x ∷ []) text))) [
      | true ↦ ap (λ l. kept begun ∷ l) (kept_completed [] text)
      | false ↦ ap (λ l. kept_lines l text) (kept_again begun (x ∷ [])) ∙ kept_completed (begun ++ x ∷ []) text
    ]

-- what is kept of complete lines
pub kept_complete : (text : List ℕ) → kept_lines [] text ≡ map kept (complete_lines text)
kept_complete text = kept_completed [] text

-- the line that stands unfinished after a text, where this much of a line stands before it
abbrev pub rest_after : (begun : List ℕ) → (text : List ℕ) → List ℕ
rest_after begun [] = begun
rest_after begun (byte ∷ text) = cond (byte == line_feed) (rest_after [] text) (rest_after (begun ++ byte ∷ []) text)

-- what is kept of it
begun_rest : (begun text : List ℕ) → begun_after (kept begun) text ≡ kept (rest_after begun text)
begun_rest begun [] = refl
begun_rest begun (x ∷ text) =
    elim (x == line_feed) as (λ b. cond b (begun_after [] text) (begun_after (kept (kept begun ++ x ∷ [])) text) ≡ kept (cond b (rest_after [] text) (rest_after (begun ++ x ∷ []) text))) [
      | true ↦ begun_rest [] text
      | false ↦ ap (λ l. begun_after l text) (kept_again begun (x ∷ [])) ∙ begun_rest (begun ++ x ∷ []) text
    ]

-- lines, the first of which begins with this much
abbrev pub onto : (begun : List ℕ) → List (List ℕ) → List (List ℕ)
onto begun [] = last_line begun
onto begun (line ∷ lines) = (begun ++ line) ∷ lines

pub onto-nothing : (lines : List (List ℕ)) → onto [] lines ≡ lines
onto-nothing [] = refl
onto-nothing (line ∷ lines) = refl

last-more : (begun : List ℕ) (x : ℕ) → last_line (begun ++ x ∷ []) ≡ (begun ++ x ∷ []) ∷ []
last-more [] x = refl
last-more (b ∷ begun) x = refl

onto-more : (begun : List ℕ) (x : ℕ) (lines : List (List ℕ)) → onto (begun ++ x ∷ []) lines ≡ onto begun (onto_first x lines)
onto-more begun x [] = last-more begun x
onto-more begun x (line ∷ lines) = ap (λ l. l ∷ lines) (append_assoc begun (x ∷ []) line)

-- the lines of a text are those that it completes, and what follows
pub lines_onto : (begun text : List ℕ) → completed begun text ++ last_line (rest_after begun text) ≡ onto begun (lines_of text)
lines_onto begun [] = refl
lines_onto begun (x ∷ text) =
    elim (x == line_feed) as (λ b. cond b (begun ∷ completed [] text) (completed (begun ++ x ∷ []) text) ++ last_line (cond b (rest_after [] text) (rest_after (begun ++ x ∷ []) text)) ≡ onto begun (cond b ([] ∷ lines_of text) (onto_first x (lines_of text)))) [
      | true ↦ ap (λ l. begun ∷ l) (lines_onto [] text ∙ onto-nothing (lines_of text)) ∙ ap (λ l. l ∷ lines_of text) (sym (append-nil begun))
      | false ↦ lines_onto (begun ++ x ∷ []) text ∙ onto-more begun x (lines_of text)
    ]

last-kept : (line : List ℕ) → map kept (last_line line) ≡ last_line (kept line)
last-kept [] = refl
last-kept (x ∷ line) = refl

-- what is kept of all lines of a text
pub kept_all : (text : List ℕ) → map kept (lines_of text) ≡ kept_lines [] text ++ last_line (begun_after [] text)
kept_all text =
    ap (map kept) (sym (lines_onto [] text ∙ onto-nothing (lines_of text)))
    ∙ map-append kept (completed [] text) (last_line (rest_after [] text))
    ∙ ap (λ l. map kept (completed [] text) ++ l) (last-kept (rest_after [] text) ∙ ap last_line (sym (begun_rest [] text)))
    ∙ ap (λ l. l ++ last_line (begun_after [] text)) (sym (kept_complete text))

-- bytes without LF complete no line
kept_within : (begun line : List ℕ) → list_all is_in_line line ≡ true → kept_lines (kept begun) line ≡ []
kept_within begun [] within = refl
kept_within begun (x ∷ line) within =
    let here : (x == line_feed) ≡ false = grind (arith, tests) in
    rw (here, kept_again begun (x ∷ [])) (kept_within (begun ++ x ∷ []) line (grind (arith, tests)))

-- and what is kept with them
begun_within : (begun line : List ℕ) → list_all is_in_line line ≡ true → begun_after (kept begun) line ≡ kept (begun ++ line)
begun_within begun [] within = ap kept (sym (append-nil begun))
begun_within begun (x ∷ line) within =
    let here : (x == line_feed) ≡ false = grind (arith, tests) in
    rw (here, kept_again begun (x ∷ [])) (begun_within (begun ++ x ∷ []) line (grind (arith, tests)) ∙ ap kept (append_assoc begun (x ∷ []) line))

-- the front of a text, one byte on
take_on : (b : Bool) (n x : ℕ) (text : List ℕ) → take (cond b (1 + n) 0) (x ∷ text) ≡ cond b (x ∷ take n text) []
take_on true n x text = let more : 1 + n ≡ suc n = omega arith in rw more refl
take_on false n x text = refl

-- no LF stands before the first
before_end : (text : List ℕ) → list_all is_in_line (take (line_end text) text) ≡ true
before_end [] = refl
before_end (x ∷ text) = grind (arith, nat_tests, take_on, before_end text)

-- a complete line
pub kept_line : (begun line : List ℕ) → length begun ≤ 201 → list_all is_in_line line ≡ true
    → (kept_lines begun (line ++ line_feed ∷ []) ≡ kept (begun ++ line) ∷ []) × (begun_after begun (line ++ line_feed ∷ []) ≡ [])
kept_line begun line short within =
    let whole : kept begun ≡ begun = take_all 201 begun short in
    let none : kept_lines begun line ≡ [] = rw whole at (kept_within begun line within) in
    let all : begun_after begun line ≡ kept (begun ++ line) = rw whole at (begun_within begun line within) in (
      kept_lines-append begun line (line_feed ∷ []) ∙ rw (none, all) refl,
      begun_after-append begun line (line_feed ∷ []),
    )

-- a text whose first line is complete
pub first_closed : (begun text line rest : List ℕ) (n : ℕ) → length begun ≤ 201 → n ≡ line_end text → line ≡ take n text → rest ≡ drop n text → 1 ≤ length rest
    → (kept_lines begun (first_line text) ≡ kept (begun ++ line) ∷ []) × (begun_after begun (first_line text) ≡ []) × (take (length rest - 1) (drop 1 rest) ≡ after_line text)
first_closed begun text line rest n short is front back some =
    let inside : n < length text = omega (arith, ap length back, length-drop n text) in
    let end : get_or text n 0 ≡ line_feed = rw is (eqb-true (get_or text (line_end text) 0) line_feed (passes_at_first (λ byte. byte == line_feed) text 0 (rw (← is) inside))) in
    let cut : first_line text ≡ line ++ line_feed ∷ [] = ap (λ k. take (k + 1) text) (sym is) ∙ take_more text n 0 inside ∙ rw (end, front) refl in
    let (lines, left) = kept_line begun line short (rw (front, is) (before_end text)) in (
      ap (kept_lines begun) cut ∙ lines,
      ap (begun_after begun) cut ∙ left,
      take-drop_one rest ∙ ap (drop 1) back ∙ drop-drop 1 n text ∙ ap (λ k. drop k text) (omega arith),
    )

-- a text without LF
pub first_open : (begun text line rest : List ℕ) (n : ℕ) → length begun ≤ 201 → n ≡ line_end text → line ≡ take n text → rest ≡ drop n text → length rest < 1
    → (kept_lines begun (first_line text) ≡ []) × (begun_after begun (first_line text) ≡ kept (begun ++ line)) × (rest ≡ after_line text)
first_open begun text line rest n short is front back none =
    let past : length text ≤ n = omega (arith, ap length back, length-drop n text) in
    let all : first_line text ≡ line = take_all (line_end text + 1) text (omega arith) ∙ sym (front ∙ take_all n text past) in
    let within : list_all is_in_line line ≡ true = rw (front, is) (before_end text) in
    let whole : kept begun ≡ begun = take_all 201 begun short in (
      ap (kept_lines begun) all ∙ (rw whole at (kept_within begun line within)),
      ap (begun_after begun) all ∙ (rw whole at (begun_within begun line within)),
      empty-is rest (omega arith) ∙ sym (empty-is (after_line text) (omega (arith, length-drop (line_end text + 1) text))),
    )

-- a text is its first line and what follows
pub first_parts : (text : List ℕ) → text ≡ first_line text ++ after_line text
first_parts text = sym (take-append-drop (line_end text + 1) text)

-- some bytes stand in the first line
pub first_some : (text : List ℕ) → 0 < length text → 0 < length (first_line text)
first_some text some = omega (arith, length-take (line_end text + 1) text)

ends_at : (line after : List ℕ) → list_all is_in_line line ≡ true → line_end (line ++ line_feed ∷ after) ≡ length line
ends_at [] after within = refl
ends_at (x ∷ line) after within = grind (arith, nat_tests, ends_at line after)

-- a text that is a line, LF and what follows
pub first_cut : (text line after : List ℕ) → text ≡ line ++ line_feed ∷ after → list_all is_in_line line ≡ true → (first_line text ≡ line ++ line_feed ∷ []) × (after_line text ≡ after)
first_cut text line after is within =
    let end : line_end text ≡ length line = ap line_end is ∙ ends_at line after within in (
      rw (end, is) (take-append-add line (line_feed ∷ after) 1),
      rw (end, is) (drop-append-add line (line_feed ∷ after) 1),
    )
