-- An order of a client that was printed, read again.
use Rattle.std.proofs.Common.{◌≡◌, ℕ, ◌+◌, ◌*◌, ◌%◌, ◌-◌, ◌<◌, ◌≤◌, ◌^◌, List, [], ◌∷◌, Some, None, false, ◌==◌, nat_lt, Ok, length, get_or, map, refl, inl, inr, sym, ap, ◌∙◌, arith, suc, length-append, append-nil, subst, tests}
use Rattle.std.specs.Prelude.{decimal, unwrap_or, All}
use Rattle.std.specs.List.{flat_map, slice_split}
use Rattle.std.specs.Char.{is_ascii_digit}
use Rattle.std.specs.Str.{bytes_eq}
use Rattle.std.proofs.lemmas.Bool.{cases_Bool, eqb-true, eqb-false, ne_eqb}
use Rattle.std.proofs.lemmas.Bool.Decides.{nat_tests}
use Rattle.std.proofs.lemmas.Grind.{common_steps}
use Rattle.std.proofs.lemmas.Fmt.{decimal_nonempty}
use Rattle.std.proofs.lemmas.List.{get_or_append_left, length-map}
use Rattle.std.proofs.lemmas.List.Folds.{list_all-append}
use Rattle.std.proofs.lemmas.List.Splits.{slice_split_at, slice_split_none}
use Rattle.std.proofs.lemmas.List.Sums.{AllPass-from_list_all}
use Rattle.arb_share.specs.Limits.{applications, levels, max_entry, max_entry_word}
use Rattle.arb_share.specs.Text.{is_skipped, number_of, space}
use Rattle.arb_share.specs.Rows.{entries_fault}
use Rattle.arb_model.specs.declared.orders.Order.{Order}
use Rattle.arb_model.specs.Limits.{clients, threads}
use Rattle.arb_model.specs.Standing.{the_clock, app_of}
use Rattle.arb_model.specs.History.{FitsOrder}
use Rattle.arb_script.specs.Limits.{max_line}
use Rattle.arb_model.specs.Texts.{clock_word, client_word, dot, order_text, order_word, thread_word, words_after}
use Rattle.arb_script.specs.Printed.{given_text}
use Rattle.arb_script.specs.Script.{client_of, entries_in, gives, order_of, said_of}
use Rattle.arb_script.specs.Laws.{ReadsBack}
use Rattle.arb_script.proofs.NumberLaws.{decimal-digits, decimal-first, number_of-decimal, length-decimal-any, length-decimal-small}
use Rattle.arb_model.proofs.TextLaws.{entry_piece, words_joined}
use Rattle.arb_script.specs.Usual.{AreWords, IsWord, is_visible}
use Rattle.arb_script.proofs.WordLaws.{digit-no_dot, IsWord-decimal, join-in_line, lines_of-one, words_of-join}

-- the client's word

undotted : (n : ℕ) → n < 2 ^ 64 → All (λ byte. (byte == dot) ≡ false) (decimal n)
undotted n h = λ k d i. digit-no_dot _ (AllPass-from_list_all is_ascii_digit (decimal n) (decimal-digits n h) k d i)

parts_of-thread : (thread : ℕ) → thread < the_clock → slice_split (λ byte. byte == dot) (thread_word thread) ≡ decimal (app_of thread) ∷ decimal (thread % threads) ∷ []
parts_of-thread thread h =
    slice_split_at (λ byte. byte == dot) (decimal (app_of thread)) dot (decimal (thread % threads)) (undotted (app_of thread) (omega arith)) refl
    ∙ ap (λ parts. decimal (app_of thread) ∷ parts) (slice_split_none (λ byte. byte == dot) (decimal (thread % threads)) (undotted (thread % threads) (omega arith)))

-- the first byte of a thread's word is a digit
thread_word-first : (thread : ℕ) → thread < the_clock → (0 < length (thread_word thread)) × (48 ≤ get_or (thread_word thread) 0 0) × (get_or (thread_word thread) 0 0 ≤ 57)
thread_word-first thread h =
    let some = decimal_nonempty (app_of thread) (omega arith) in
    let first = decimal-first (app_of thread) (omega arith) in
    let rest : List ℕ = dot ∷ decimal (thread % threads) in
    let same = get_or_append_left (decimal (app_of thread)) rest 0 0 some in
    (omega (arith, length-append (decimal (app_of thread)) rest), omega (arith, same, first.0), omega (arith, same, first.1))

no_clock : (word : List ℕ) → 0 < length word → get_or word 0 0 ≤ 57 → bytes_eq word clock_word ≡ false
no_clock [] some low = absurd (omega arith)
no_clock (byte ∷ word) some low = grind (arith, nat_tests)

thread_read : (thread : ℕ) → thread < the_clock → client_of (thread_word thread) ≡ Some thread
thread_read thread h =
    let first = thread_word-first thread h in
    let other = no_clock (thread_word thread) first.0 first.2 in
    let app = number_of-decimal (applications - 1) (app_of thread) (omega arith) (omega arith) in
    let number = number_of-decimal (threads - 1) (thread % threads) (omega arith) (omega arith) in
    let whole : threads * app_of thread + thread % threads ≡ thread = omega arith in
    rw (other, parts_of-thread thread h, app, number) (ap Some whole)

-- what a client's word is
record IsClientWord (client : ℕ) (word : List ℕ) : Type 0 where
  pub is_word : IsWord word
  pub short : length word ≤ 7
  pub read : client_of word ≡ Some client
  pub no_comment : is_skipped (word ∷ []) ≡ false

IsClientWord-thread : (thread : ℕ) → thread < the_clock → IsClientWord thread (thread_word thread)
IsClientWord-thread thread h =
    let first = thread_word-first thread h in
    let app = IsWord-decimal (app_of thread) (omega arith) in
    let number = IsWord-decimal (thread % threads) (omega arith) in
    let rest : List ℕ = dot ∷ decimal (thread % threads) in
    record {
      is_word = record { some = first.0; visible = list_all-append is_visible (decimal (app_of thread)) rest ∙ rw app.visible number.visible };
      short = omega (arith, length-decimal-small (app_of thread) (omega arith), length-decimal-small (thread % threads) (omega arith), length-append (decimal (app_of thread)) rest);
      read = thread_read thread h;
      no_comment = ne_eqb (get_or (thread_word thread) 0 0) 35 (λ e. omega (arith, first.1));
    }

client_word-is : (client : ℕ) → client < clients → IsClientWord client (client_word client)
client_word-is client h =
    elim (cases_Bool (client == the_clock)) [
      | inl e ↦
          let same : client ≡ the_clock = eqb-true client the_clock e in
          subst (λ (n : ℕ). IsClientWord n (client_word n)) (sym same) (record {
            is_word = record { some = omega arith; visible = refl };
            short = omega arith;
            read = refl;
            no_comment = refl;
          })
      | inr e ↦
          let other = eqb-false client the_clock e in
          rw e (IsClientWord-thread client (omega arith))
    ]

-- the order's words

fault-none : (level : ℕ) (entries : List ℕ) → All (λ entry. entry ≤ max_entry) entries → entries_fault level (map decimal entries) ≡ None
fault-none level [] fits = refl
fault-none level (entry ∷ entries) fits =
    let low : entry ≤ max_entry = fits 0 entry (omega arith) in
    grind (arith, nat_tests, number_of-decimal max_entry_word entry, fault-none (level + 1) entries (λ k d h. fits (suc k) d (omega arith)))

written-same : (entries : List ℕ) → All (λ entry. entry ≤ max_entry) entries → map (λ word. unwrap_or (number_of max_entry_word word) 0) (map decimal entries) ≡ entries
written-same [] fits = refl
written-same (entry ∷ entries) fits =
    let low : entry ≤ max_entry = fits 0 entry (omega arith) in
    grind (arith, nat_tests, number_of-decimal max_entry_word entry, written-same entries (λ k d h. fits (suc k) d (omega arith)))

entries_read : (request : List ℕ) → length request ≡ levels → All (λ entry. entry ≤ max_entry) request → entries_in (map decimal request) ≡ Ok request
entries_read request whole fits =
    let long : length (map decimal request) ≡ 8 = length-map request decimal ∙ whole in
    rw (long, fault-none 0 request fits, written-same request fits) (ap Ok (append-nil request))

order_read : (order : Order) → FitsOrder order → order_of (order_word order) (words_after order) ≡ Ok order
order_read order fits = grind (arith, nat_tests, common_steps, entries_read, number_of-decimal)

-- each entry is a word
AreWords-entries : (entries : List ℕ) → All (λ entry. entry ≤ max_entry) entries → AreWords (map decimal entries)
AreWords-entries [] fits = tt
AreWords-entries (entry ∷ entries) fits =
    let low : entry ≤ max_entry = fits 0 entry (omega arith) in
    (IsWord-decimal entry (omega arith), AreWords-entries entries (λ k d h. fits (suc k) d (omega arith)))

AreWords-order : (order : Order) → FitsOrder order → IsWord (order_word order) × AreWords (words_after order)
AreWords-order order fits = grind (arith, nat_tests, common_steps, IsWord-decimal, AreWords-entries)

length-pieces : (entries : List ℕ) → All (λ entry. entry ≤ max_entry) entries → length (flat_map entry_piece entries) ≤ 4 * length entries
length-pieces [] fits = omega arith
length-pieces (entry ∷ entries) fits =
    let low : entry ≤ max_entry = fits 0 entry (omega arith) in
    omega (arith, length-decimal-small entry (omega arith), length-pieces entries (λ k d h. fits (suc k) d (omega arith)), length-append (decimal entry) (flat_map entry_piece entries))

length-order : (order : Order) → FitsOrder order → length (order_text order) ≤ 35
length-order order fits = grind (arith, nat_tests, common_steps, length-decimal-small, length-decimal-any, length-pieces, words_joined)

-- the whole line

line_read : (client : ℕ) (order : Order) → client < clients → FitsOrder order → said_of (given_text client order) ≡ gives (record { client = client; order = order })
line_read client order known fits =
    let word = client_word-is client known in
    let few : length (given_text client order) ≤ 43 = omega (arith, word.short, length-order order fits, length-append (client_word client) (space ∷ order_text order)) in
    let fitting : nat_lt max_line (length (given_text client order)) ≡ false = grind (arith, tests) in
    let cut = words_of-join (client_word client) (order_word order ∷ words_after order) word.is_word (AreWords-order order fits) in
    rw (fitting, cut, word.no_comment, word.read, order_read order fits) refl

pub given_text-reads_back : ReadsBack
given_text-reads_back client order known fits =
    let word = client_word-is client known in
    let one = lines_of-one (given_text client order) (join-in_line (client_word client) (order_word order ∷ words_after order) word.is_word (AreWords-order order fits)) in
    rw (one, line_read client order known fits) refl
