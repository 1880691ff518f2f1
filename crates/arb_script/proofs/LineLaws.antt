-- A usual line, cut into its words.
use Rattle.std.proofs.Common.{◌≡◌, ℕ, ◌+◌, ◌*◌, ◌-◌, ◌<◌, ◌≤◌, List, [], ◌∷◌, ◌++◌, Some, Ok, true, false, ◌==◌, nat_lt, length, get_or, take, take_all, drop, drop-drop, length-drop, refl, sym, ap, ◌∙◌, subst, arith, tests, append_assoc, length-append}
use Rattle.std.specs.Prelude.{codes, slice_index}
use Rattle.std.specs.List.{join_with_byte, list_all, slice_split}
use Rattle.std.specs.Char.{is_ascii_digit}
use Rattle.std.specs.Str.{bytes_eq}
use Rattle.std.proofs.lemmas.Bool.{ne_eqb}
use Rattle.std.proofs.lemmas.Bool.Decides.{nat_tests}
use Rattle.std.proofs.Math.Seq.{drop-append_seam}
use Rattle.std.proofs.lemmas.List.Folds.{list_all-append}
use Rattle.std.proofs.lemmas.List.Splits.{slice_split_at, slice_split_none}
use Rattle.std.proofs.lemmas.List.Sums.{AllPass-from_list_all}
use Rattle.arb_share.specs.Limits.{applications, max_entry_word}
use Rattle.arb_share.specs.Text.{is_skipped, line_feed, lines_of, number_of, space, words_of}
use Rattle.arb_model.specs.declared.orders.Order.{Order}
use Rattle.arb_model.specs.declared.orders.Order.TheVariants.{Ask, Cap, Tick}
use Rattle.arb_model.specs.Limits.{threads}
use Rattle.arb_model.specs.Standing.{the_clock}
use Rattle.arb_model.specs.Texts.{clock_word, dot}
use Rattle.arb_script.specs.declared.given.ClientOrder.{ClientOrder}
use Rattle.arb_script.specs.Front.{BeginsWithGiven}
use Rattle.arb_script.specs.Limits.{max_line, max_moment}
use Rattle.arb_script.specs.Script.{entries_in, gives, order_of, said_in}
use Rattle.arb_script.specs.Usual.{AreEntries, BeginsWithClient, BeginsWithLine, BeginsWithNumber, BeginsWithOrder, IsWord}
use Rattle.arb_script.proofs.WordLaws.{all_in_line, digit-no_dot, is_in_line, join-plain, words_of-join}
use Rattle.arb_script.proofs.EntriesLaws.{line_more, line_one, word_of_number}

-- a text without LF, and LF, is the first line
lines_of-first : (line after : List ℕ) → list_all is_in_line line ≡ true → lines_of (line ++ (line_feed ∷ after)) ≡ line ∷ lines_of after
lines_of-first [] after h = refl
lines_of-first (byte ∷ line) after h = grind (arith, nat_tests, lines_of-first line after)

-- the client

-- a number in fewer
number_within : (more most : ℕ) (word : List ℕ) (value : ℕ) → number_of more word ≡ Some value → value ≤ most → number_of most word ≡ Some value
number_within more most word value writes within = grind (arith, nat_tests)

undotted : (word : List ℕ) → list_all is_ascii_digit word ≡ true → (k d : ℕ) → k < length word → (get_or word k d == dot) ≡ false
undotted word digits k d less = digit-no_dot _ (AllPass-from_list_all is_ascii_digit word digits k d less)

parts_two : (app thread : List ℕ) → list_all is_ascii_digit app ≡ true → list_all is_ascii_digit thread ≡ true → slice_split (λ byte. byte == dot) (app ++ (dot ∷ thread)) ≡ app ∷ thread ∷ []
parts_two app thread first second =
    slice_split_at (λ byte. byte == dot) app dot thread (undotted app first) refl ∙ ap (λ parts. app ∷ parts) (slice_split_none (λ byte. byte == dot) thread (undotted thread second))

first_digit : (word rest : List ℕ) → 0 < length word → list_all is_ascii_digit word ≡ true → (48 ≤ get_or (word ++ rest) 0 0) × (get_or (word ++ rest) 0 0 ≤ 57)
first_digit [] rest some digits = absurd (omega arith)
first_digit (byte ∷ word) rest some digits = grind (arith, tests)

no_clock : (word : List ℕ) → 0 < length word → get_or word 0 0 ≤ 57 → bytes_eq word clock_word ≡ false
no_clock [] some low = absurd (omega arith)
no_clock (byte ∷ word) some low = grind (arith, nat_tests)

-- an application, a dot and a thread
pub thread_first : (text behind after : List ℕ) (app thread : ℕ) → BeginsWithNumber 99 text app dot behind → BeginsWithNumber 99 behind thread space after → app < applications → thread < threads → BeginsWithClient text (threads * app + thread) after
thread_first text behind after app thread a t few low =
    let word : List ℕ = a.word ++ (dot ∷ t.word) in
    let w = word_of_number 99 a.word app a.digits a.writes in
    let v = word_of_number 99 t.word thread t.digits t.writes in
    let first = first_digit a.word (dot ∷ t.word) w.some a.digits in
    let some : 0 < length word = omega (arith, length-append a.word (dot ∷ t.word)) in
    let other : bytes_eq word clock_word ≡ false = no_clock word some first.1 in
    record {
      word = word;
      is = a.is ∙ ap (λ rest. a.word ++ (dot ∷ rest)) t.is ∙ sym (append_assoc a.word (dot ∷ t.word) (space ∷ after));
      part = record { some = some; visible = list_all-append _ a.word (dot ∷ t.word) ∙ rw (w.visible, v.visible) refl };
      no_comment = omega (arith, first.0);
      named = rw (other, parts_two a.word t.word a.digits t.digits, number_within 99 (applications - 1) a.word app a.writes (omega arith), number_within 99 (threads - 1) t.word thread t.writes (omega arith)) refl;
    }

pub clock_first : (text after : List ℕ) → text ≡ codes "clock " ++ after → BeginsWithClient text the_clock after
clock_first text after is =
    record { word = clock_word; is = is; part = record { some = omega arith; visible = refl }; no_comment = omega arith; named = refl }

-- the order

pub ask_first : (text rest behind request after : List ℕ) → text ≡ codes "ask" ++ rest → rest ≡ codes " " ++ behind → AreEntries behind request after → BeginsWithOrder text (Ask request) after
ask_first text rest behind request after is next entries =
    let read : entries_in entries.words ≡ Ok request = grind (arith, nat_tests, entries.few, entries.line.some, entries.faultless, entries.written) in
    record {
      name = codes "ask";
      words = entries.words;
      line = line_more text (codes "ask") behind entries.words after (is ∙ ap (λ t. codes "ask" ++ t) next) (record { some = omega arith; visible = refl }) entries.line;
      ordered = rw read refl;
    }

-- an order that takes a number
number_first : (most : ℕ) (text name rest behind after : List ℕ) (value : ℕ) (order : Order) → IsWord name → text ≡ name ++ rest → rest ≡ codes " " ++ behind → (n : BeginsWithNumber most behind value line_feed after)
    → order_of name (n.word ∷ []) ≡ Ok order → BeginsWithOrder text order after
number_first most text name rest behind after value order w is next n ordered =
    let line = line_one behind n.word after n.is (word_of_number most n.word value n.digits n.writes) in
    record { name = name; words = n.word ∷ []; line = line_more text name behind (n.word ∷ []) after (is ∙ ap (λ t. name ++ t) next) w line; ordered = ordered }

pub cap_first : (text rest behind after : List ℕ) (cap : ℕ) → text ≡ codes "cap" ++ rest → rest ≡ codes " " ++ behind → BeginsWithNumber max_entry_word behind cap line_feed after → BeginsWithOrder text (Cap cap) after
cap_first text rest behind after cap is next n =
    number_first max_entry_word text (codes "cap") rest behind after cap (Cap cap) (record { some = omega arith; visible = refl }) is next n (rw n.writes refl)

pub tick_first : (text rest behind after : List ℕ) (moment : ℕ) → text ≡ codes "tick" ++ rest → rest ≡ codes " " ++ behind → BeginsWithNumber max_moment behind moment line_feed after → BeginsWithOrder text (Tick moment) after
tick_first text rest behind after moment is next n =
    number_first max_moment text (codes "tick") rest behind after moment (Tick moment) (record { some = omega arith; visible = refl }) is next n (rw n.writes refl)

-- what follows a number is shorter
pub number_length : (most : ℕ) (text : List ℕ) (value behind : ℕ) (after : List ℕ) → BeginsWithNumber most text value behind after → length after ≤ length text
number_length most text value behind after n = omega (arith, ap length n.is, length-append n.word (behind ∷ after))

-- what is left of a text, by how many bytes were taken off
pub dropped : (text front after : List ℕ) → text ≡ front ++ after → drop (length text - length after) text ≡ after
dropped text front after is =
    let same : length text - length after ≡ length front = omega (arith, ap length is, length-append front after) in
    rw (same, is) (drop-append_seam front after)

pub client_at : (text after : List ℕ) (client : ℕ) → BeginsWithClient text client after → BeginsWithClient text client (drop (length text - length after) text)
client_at text after client c =
    rw (dropped text (c.word ++ space ∷ []) after (c.is ∙ sym (append_assoc c.word (space ∷ []) after))) c

line_at : (text after : List ℕ) (words : List (List ℕ)) → BeginsWithLine text words after → drop (length text - length after) text ≡ after
line_at text after words l =
    let line = join_with_byte space words in
    dropped text (line ++ line_feed ∷ []) after (l.is ∙ sym (append_assoc line (line_feed ∷ []) after))

pub entries_at : (text after request : List ℕ) → AreEntries text request after → AreEntries text request (drop (length text - length after) text)
entries_at text after request e = rw (line_at text after e.words e.line) e

pub order_at : (text after : List ℕ) (order : Order) → BeginsWithOrder text order after → BeginsWithOrder text order (drop (length text - length after) text)
order_at text after order o = rw (line_at text after (o.name ∷ o.words) o.line) o

-- the whole line

given_first : (text behind after : List ℕ) (client : ℕ) (order : Order) → BeginsWithClient text client behind → BeginsWithOrder behind order after → length text ≤ max_line + length after
    → BeginsWithGiven text (record { client = client; order = order }) after
given_first text behind after client order c o short =
    let words : List (List ℕ) = c.word ∷ o.name ∷ o.words in
    let cut : BeginsWithLine text words after = line_more text c.word behind (o.name ∷ o.words) after c.is c.part o.line in
    let line : List ℕ = join_with_byte space words in
    let few : length line + 1 + length after ≡ length text = omega (arith, ap length cut.is, length-append line (line_feed ∷ after)) in
    let fitting : nat_lt max_line (length line) ≡ false = grind (arith, tests) in
    let parts : words_of line ≡ words = words_of-join c.word (o.name ∷ o.words) c.part o.line.parts in
    let begun : is_skipped words ≡ false = ne_eqb (slice_index c.word 0) 35 c.no_comment in
    record {
      line = line;
      is = cut.is;
      plain = join-plain c.word (o.name ∷ o.words) c.part o.line.parts;
      says = rw (fitting, parts, begun, c.named, o.ordered) refl;
    }

-- what such a text says
pub said_first : (text after : List ℕ) (given : ClientOrder) → BeginsWithGiven text given after → said_in text ≡ gives given ∷ said_in after
said_first text after given b =
    let first : lines_of text ≡ b.line ∷ lines_of after = rw b.is (lines_of-first b.line after (all_in_line b.line b.plain)) in
    rw (first, b.says) refl

-- a text that is cut twice
dropped_on : (text : List ℕ) (first rest : ℕ) → drop rest (drop first text) ≡ drop (first + rest) text
dropped_on text first rest = drop-drop rest first text ∙ ap (λ n. drop n text) (omega arith)

-- an order that asks, by how many bytes it is
pub ask_at : (text rest behind request : List ℕ) (used : ℕ) → text ≡ codes "ask" ++ rest → rest ≡ codes " " ++ behind → AreEntries behind request (drop used behind) → BeginsWithOrder text (Ask request) (drop (length text - length behind + used) text)
ask_at text rest behind request used is next e =
    let whole : text ≡ codes "ask " ++ behind = is ∙ ap (λ t. codes "ask" ++ t) next in
    let back : drop used behind ≡ drop (length text - length behind + used) text = ap (drop used) (sym (dropped text (codes "ask ") behind whole)) ∙ dropped_on text (length text - length behind) used in
    subst (λ (t : List ℕ). BeginsWithOrder text (Ask request) t) back (ask_first text rest behind request (drop used behind) is next e)

-- a client and an order, by how many bytes they are
pub given_at : (text behind : List ℕ) (client : ℕ) (order : Order) (first rest : ℕ) → behind ≡ take (length text - first) (drop first text) → BeginsWithClient text client (drop first text) → BeginsWithOrder behind order (drop rest behind) → first + rest ≤ max_line
    → BeginsWithGiven text (record { client = client; order = order }) (drop (first + rest) text)
given_at text behind client order first rest is c o short =
    let same : behind ≡ drop first text = is ∙ take_all (length text - first) (drop first text) (omega (arith, length-drop first text)) in
    let back : drop rest behind ≡ drop (first + rest) text = ap (drop rest) same ∙ dropped_on text first rest in
    let begins : BeginsWithOrder (drop first text) order (drop (first + rest) text) = rw (← same, ← back) o in
    given_first text (drop first text) (drop (first + rest) text) client order c begins (omega (arith, short, length-drop (first + rest) text))
