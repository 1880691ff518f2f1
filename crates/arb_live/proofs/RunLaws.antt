-- The live report of a script is that of a run.
use Rattle.std.proofs.Common.{◌≡◌, ◌⊎◌, ℕ, ◌+◌, ◌<◌, ◌==◌, List, [], ◌∷◌, ◌++◌, true, false, None, map, length, take, get_or, suc, refl, inl, inr, sym, ap, ◌∙◌, subst, arith, append_assoc, append-nil, length-append}
use Rattle.std.specs.Prelude.{codes, nat_lt}
use Rattle.std.specs.List.{concat}
use Rattle.std.specs.Str.{IsUtf8, is_utf8}
use Rattle.std.proofs.lemmas.Bool.{cases_Bool, eqb-true, false≢true}
use Rattle.std.proofs.lemmas.List.Sums.{fold-append}
use Rattle.std.proofs.lemmas.Str.{IsCharBoundary-after_ascii, IsCharBoundary-before_ascii, IsUtf8-drop, IsUtf8-take, is_utf8-from_IsUtf8}
use Rattle.std.proofs.lemmas.List.{get_or-append-add}
use Rattle.std.proofs.lemmas.Option.{none-some}
use Rattle.std.proofs.lemmas.Slice.Eq.{bytes_eq-Decides}
use Rattle.std.proofs.Math.Seq.{drop-append-add, take-append_seam}
use Rattle.arb_share.specs.Text.{line_feed, lines_of, words_of}
use Rattle.arb_config.specs.Machine.{Machine}
use Rattle.arb_model.specs.Lists.{each_at}
use Rattle.arb_model.specs.Standing.{Standing, opening}
use Rattle.arb_script.specs.declared.fault.ScriptKind.TheVariants.{BadClient, LongLine}
use Rattle.arb_script.specs.declared.given.ClientOrder.{ClientOrder}
use Rattle.arb_script.specs.Script.{Said, nothing, gives, wrong, fault_at, fault_of, orders_in, said_of}
use Rattle.arb_script.specs.Table.{table_text}
use Rattle.arb_script.specs.Report.{order_line, order_lines, standing_after, standing_next}
use Rattle.arb_live.specs.Heard.{asks_owners, heard, heard_of}
use Rattle.arb_live.specs.Live.{answer_of, answers, completed, live_report, standing_by}
use Rattle.arb_live.specs.Laws.{ReportsAsRun}
use Rattle.arb_live.specs.Pieces.{last_line}
use Rattle.arb_live.proofs.LineLaws.{lines_onto, onto-nothing, rest_after}

-- the lines of orders from a standing on
abbrev pub lines_from : Machine → Standing → (orders : List ClientOrder) → List ℕ
lines_from m s [] = []
lines_from m s (given ∷ orders) = order_line m s given ++ lines_from m (standing_next m s given) orders

-- the lines of the orders of a script behind some of them
lines_behind : (m : Machine) (before orders : List ClientOrder)
    → concat (each_at (λ place given. order_line m (standing_after m (take place (before ++ orders))) given) (length before) orders) ≡ lines_from m (standing_after m before) orders
lines_behind m before [] = refl
lines_behind m before (given ∷ orders) =
    let whole : List ClientOrder = before ++ given ∷ orders in
    let line : ℕ → ClientOrder → List ℕ = λ place order. order_line m (standing_after m (take place whole)) order in
    let more : List ClientOrder = before ++ given ∷ [] in
    let same : more ++ orders ≡ whole = append_assoc before (given ∷ []) orders in
    let long : length more ≡ length before + 1 = length-append before (given ∷ []) in
    let here : line (length before) given ≡ order_line m (standing_after m before) given =
    ap (λ (l : List ClientOrder). order_line m (standing_after m l) given) (take-append_seam before (given ∷ orders)) in
    let next : standing_after m more ≡ standing_next m (standing_after m before) given = fold-append (standing_next m) (opening m) before (given ∷ []) in
    let later : concat (each_at line (length before + 1) orders) ≡ lines_from m (standing_next m (standing_after m before) given) orders =
    ap (λ (n : ℕ). concat (each_at line n orders)) (sym long)
    ∙ ap (λ (l : List ClientOrder). concat (each_at (λ place order. order_line m (standing_after m (take place l)) order) (length more) orders)) (sym same)
    ∙ lines_behind m more orders
    ∙ ap (λ (s : Standing). lines_from m s orders) next in
    ap (λ (l : List ℕ). l ++ concat (each_at line (length before + 1) orders)) here
    ∙ ap (λ (l : List ℕ). order_line m (standing_after m before) given ++ l) later

-- the lines of all orders
lines_all : (m : Machine) (orders : List ClientOrder) → order_lines m orders ≡ lines_from m (opening m) orders
lines_all m orders = lines_behind m [] orders

-- each line is text
abbrev AreText : (lines : List (List ℕ)) → Type 0
AreText [] = Unit {0}
AreText (line ∷ lines) = (is_utf8 line ≡ true) × AreText lines

last_text : (begun : List ℕ) → IsUtf8 (begun ++ []) → AreText (last_line begun)
last_text [] text = tt
last_text (x ∷ begun) text = (is_utf8-from_IsUtf8 (x ∷ begun) (subst IsUtf8 (append-nil (x ∷ begun)) text), tt)

plus_zero : (n : ℕ) → n ≡ n + 0
plus_zero n = omega arith

-- the two parts of a text at an LF
text_parts : (begun text : List ℕ) → IsUtf8 (begun ++ line_feed ∷ text) → IsUtf8 begun × IsUtf8 text
text_parts begun text is =
    let whole : List ℕ = begun ++ line_feed ∷ text in
    let i : ℕ = length begun in
    let inside : i < length whole = omega (arith, length-append begun (line_feed ∷ text)) in
    let byte : get_or whole i 0 < 128 = omega (arith, ap (λ (n : ℕ). get_or whole n 0) (plus_zero i), get_or-append-add begun (line_feed ∷ text) 0 0) in (
      subst IsUtf8 (take-append_seam begun (line_feed ∷ text)) (IsUtf8-take whole i is (IsCharBoundary-before_ascii whole i inside byte)),
      subst IsUtf8 (drop-append-add begun (line_feed ∷ text) 1) (IsUtf8-drop whole (i + 1) is (IsCharBoundary-after_ascii whole i is inside byte)),
    )

-- the lines of a text are text
text_lines : (begun text : List ℕ) → IsUtf8 (begun ++ text) → AreText (completed begun text ++ last_line (rest_after begun text))
text_lines begun [] is = last_text begun is
text_lines begun (x ∷ text) is =
    by_byte begun x text is (λ parts. text_lines [] text parts) (λ more. text_lines (begun ++ x ∷ []) text more) (cases_Bool (x == line_feed))
  where
    by_byte : (begun : List ℕ) (x : ℕ) (text : List ℕ) → IsUtf8 (begun ++ x ∷ text)
        → (IsUtf8 text → AreText (completed [] text ++ last_line (rest_after [] text)))
        → (IsUtf8 ((begun ++ x ∷ []) ++ text) → AreText (completed (begun ++ x ∷ []) text ++ last_line (rest_after (begun ++ x ∷ []) text)))
        → ((x == line_feed) ≡ true) ⊎ ((x == line_feed) ≡ false) → AreText (completed begun (x ∷ text) ++ last_line (rest_after begun (x ∷ text)))
    by_byte begun x text is ends more (inl e) =
        let parts = text_parts begun text (subst (λ (n : ℕ). IsUtf8 (begun ++ n ∷ text)) (eqb-true x line_feed e) is) in
        rw e (is_utf8-from_IsUtf8 begun parts.0, ends parts.1)
    by_byte begun x text is ends more (inr e) = rw e (more (subst IsUtf8 (sym (append_assoc begun (x ∷ []) text)) is))

-- no line is faulty
abbrev AreFaultless : (lines : List (List ℕ)) → Type 0
AreFaultless [] = Unit {0}
AreFaultless (line ∷ lines) = (fault_of (said_of line) ≡ None) × AreFaultless lines

faultless_each : (lines : List (List ℕ)) → ((index : ℕ) → index < length (map said_of lines) → fault_at (map said_of lines) index ≡ None) → AreFaultless lines
faultless_each [] clean = tt
faultless_each (line ∷ lines) clean = (clean 0 (omega arith), faultless_each lines (λ index within. clean (suc index) (omega arith)))

-- the one word that asks for the owner table
owners_word : (words : List (List ℕ)) → asks_owners words ≡ true → words ≡ codes "cores" ∷ []
owners_word [] asks = absurd (false≢true asks)
owners_word (word ∷ []) asks = ap (λ (w : List ℕ). w ∷ []) ((bytes_eq-Decides word (codes "cores")).0 asks)
owners_word (word ∷ other ∷ words) asks = absurd (false≢true asks)

-- a line that a script may have is just that
pub line_heard : (line : List ℕ) → is_utf8 line ≡ true → fault_of (said_of line) ≡ None → heard line ≡ heard_of (said_of line)
line_heard line text clean = by_length (cases_Bool (nat_lt 200 (length line)))
  where
    by_words : nat_lt 200 (length line) ≡ false → (asks_owners (words_of line) ≡ true) ⊎ (asks_owners (words_of line) ≡ false) → heard line ≡ heard_of (said_of line)
    by_words short (inl asks) =
        let said : said_of line ≡ wrong BadClient = rw (short, owners_word (words_of line) asks) refl in
        absurd (none-some BadClient (sym clean ∙ ap fault_of said))
    by_words short (inr others) = rw (short, text, others) refl

    by_length : (nat_lt 200 (length line) ≡ true) ⊎ (nat_lt 200 (length line) ≡ false) → heard line ≡ heard_of (said_of line)
    by_length (inl long) =
        let said : said_of line ≡ wrong LongLine = rw long refl in
        absurd (none-some LongLine (sym clean ∙ ap fault_of said))
    by_length (inr short) = by_words short (cases_Bool (asks_owners (words_of line)))

-- one line's answer, before those of others
answer_first : (m : Machine) (s : Standing) (number : ℕ) (said : Said) (lines : List (List ℕ)) → fault_of said ≡ None
    → ((after : Standing) → answers m (record { lines = number; standing = after }) lines ≡ lines_from m after (orders_in (map said_of lines)))
    → answer_of m s number (heard_of said) ++ answers m (record { lines = number; standing = standing_by m s (heard_of said) }) lines ≡ lines_from m s (orders_in (said ∷ map said_of lines))
answer_first m s number nothing lines clean later = later s
answer_first m s number (gives given) lines clean later = ap (λ (l : List ℕ). order_line m s given ++ l) (later (standing_next m s given))
answer_first m s number (wrong kind) lines clean later = absurd (none-some kind (sym clean))

-- the answers to lines that are a script
script_answers : (m : Machine) (s : Standing) (number : ℕ) (lines : List (List ℕ)) → AreText lines → AreFaultless lines → answers m (record { lines = number; standing = s }) lines ≡ lines_from m s (orders_in (map said_of lines))
script_answers m s number [] text clean = refl
script_answers m s number (line ∷ lines) text clean =
    ap (λ h. answer_of m s (number + 1) h ++ answers m (record { lines = number + 1; standing = standing_by m s h }) lines) (line_heard line text.0 clean.0)
    ∙ answer_first m s (number + 1) (said_of line) lines clean.0 (λ after. script_answers m after (number + 1) lines text.1 clean.1)

pub reports_as_run : ReportsAsRun
reports_as_run m text script is_text is =
    let lines : List (List ℕ) = lines_of text in
    let each : AreText lines = subst AreText (lines_onto [] text ∙ onto-nothing (lines_of text)) (text_lines [] text is_text) in
    let same : order_lines m script ≡ live_report m lines =
    lines_all m script ∙ ap (lines_from m (opening m)) is.orders ∙ sym (script_answers m (opening m) 0 lines each (faultless_each lines is.faultless)) in
    ap (λ (l : List ℕ). l ++ table_text m (standing_after m script).seats) same
