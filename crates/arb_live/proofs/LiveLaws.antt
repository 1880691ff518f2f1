-- Answers to lines that come in pieces.
use Rattle.std.proofs.Common.{◌≡◌, ℕ, ◌+◌, ◌<◌, List, [], ◌∷◌, ◌++◌, map, length, refl, sym, ap, ◌∙◌, inl, inr, arith, append_assoc, length-take, take_all}
use Rattle.std.proofs.lemmas.Bool.{cases_lt, lt-ltb}
use Rattle.arb_config.specs.Machine.{Machine}
use Rattle.arb_share.specs.Text.{lines_of}
use Rattle.arb_live.specs.Heard.{heard}
use Rattle.arb_live.specs.Live.{Talk, answer_of, answer_to, answers, complete_lines, live_report, opening_talk, standing_by, talk_after, talk_next}
use Rattle.arb_live.specs.Pieces.{begun_after, kept, kept_lines, last_line}
use Rattle.arb_live.proofs.LineLaws.{kept_all, kept_complete}

pub answers-append : (m : Machine) (t : Talk) (xs ys : List (List ℕ)) → answers m t (xs ++ ys) ≡ answers m t xs ++ answers m (talk_after m t xs) ys
answers-append m t [] ys = refl
answers-append m t (x ∷ xs) ys = ap (λ l. answer_to m t x ++ l) (answers-append m (talk_next m t x) xs ys) ∙ sym (append_assoc (answer_to m t x) (answers m (talk_next m t x) xs) (answers m (talk_after m (talk_next m t x) xs) ys))

pub talk_after-append : (m : Machine) (t : Talk) (xs ys : List (List ℕ)) → talk_after m t (xs ++ ys) ≡ talk_after m (talk_after m t xs) ys
talk_after-append m t [] ys = refl
talk_after-append m t (x ∷ xs) ys = talk_after-append m (talk_next m t x) xs ys

-- a line is what is kept of it
pub heard-kept : (line : List ℕ) → heard (kept line) ≡ heard line
heard-kept line = elim (cases_lt (length line) 201) [
  | inl short ↦ ap heard (take_all 201 line (omega arith))
  | inr long ↦ (
      let cut : 200 < length (kept line) = omega (arith, length-take 201 line) in
      rw (lt-ltb 200 (length (kept line)) cut, lt-ltb 200 (length line) (omega arith)) refl
      )
]

pub answers-kept : (m : Machine) (t : Talk) (lines : List (List ℕ)) → answers m t (map kept lines) ≡ answers m t lines
answers-kept m t [] = refl
answers-kept m t (line ∷ lines) =
    ap (λ h. answer_of m t.standing (t.lines + 1) h ++ answers m (record { lines = t.lines + 1; standing = standing_by m t.standing h }) (map kept lines)) (heard-kept line)
    ∙ ap (λ l. answer_to m t line ++ l) (answers-kept m (talk_next m t line) lines)

-- the answers to what is kept of complete lines are their report
pub report_complete : (m : Machine) (text : List ℕ) → live_report m (complete_lines text) ≡ answers m (opening_talk m) (kept_lines [] text)
report_complete m text = sym (answers-kept m (opening_talk m) (complete_lines text)) ∙ ap (answers m (opening_talk m)) (sym (kept_complete text))

-- the answers to what is kept of all lines are their report
pub report_all : (m : Machine) (text : List ℕ) → live_report m (lines_of text) ≡ answers m (opening_talk m) (kept_lines [] text) ++ answers m (talk_after m (opening_talk m) (kept_lines [] text)) (last_line (begun_after [] text))
report_all m text =
    sym (answers-kept m (opening_talk m) (lines_of text))
    ∙ ap (answers m (opening_talk m)) (kept_all text)
    ∙ answers-append m (opening_talk m) (kept_lines [] text) (last_line (begun_after [] text))
