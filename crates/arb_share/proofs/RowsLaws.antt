-- Reading entries and lines from the front.
use Rattle.std.proofs.Common.{◌≡◌, ℕ, ◌+◌, ◌<◌, ◌≤◌, List, [], ◌∷◌, ◌++◌, Option, Some, None, true, false, is_some, length, take, drop, get_or, set, map, unwrap_or, refl, sym, ap, ◌∙◌, arith, length-drop}
use Rattle.std.specs.List.{list_any, range_with_len}
use Rattle.std.specs.Option.{option_or}
use Rattle.std.proofs.lemmas.Bool.Decides.{nat_tests}
use Rattle.std.proofs.lemmas.Grind.{common_steps, same_number_lists}
use Rattle.std.proofs.lemmas.List.{get_or-map, length-map, length-set, get_or-set_same, get_or-set_other}
use Rattle.std.proofs.lemmas.List.FromFn.{fill_by_all, get_or-map-range_with_len, length-map-range_with_len}
use Rattle.arb_share.specs.declared.rows.RowKind.{RowKind}
use Rattle.arb_share.specs.declared.rows.RowKind.TheVariants.{AppTwice}
use Rattle.arb_share.specs.Limits.{applications, levels, max_entry, max_entry_word}
use Rattle.arb_share.specs.Division.{ExactlyOne}
use Rattle.arb_share.specs.Text.{number_of}
use Rattle.arb_share.specs.Rows.{Said, nothing, row, wrong, entry_fault, first_fault, entries_fault, entries_written, is_row_of, fault_after, fault_at, request_in, AreRows, IsFirstFault, Reads}
use Rattle.arb_share.proofs.FirstFault.{IsReadTo, IsReadTo-front, IsReadTo-next, IsReadTo-fault, IsReadTo-end, IsReading-ExactlyOne, left_of}

-- the first `level` words are read into the entries, no fault was among them, and these are left
pub record ReadsEntries (words left : List (List ℕ)) (entries : List ℕ) (level : ℕ) : Type 0 where
  pub whole : length entries ≡ levels
  pub behind : left ≡ drop level words
  pub so_far : level ≤ length words
  pub fault : entries_fault 0 words ≡ entries_fault level left
  pub read : (k : ℕ) → k < level → get_or entries k 0 ≡ unwrap_or (number_of max_entry_word (get_or words k [])) 0
  pub missing : (k : ℕ) → level ≤ k → get_or entries k 0 ≡ 0
  pub small : (k : ℕ) → get_or entries k 0 ≤ max_entry

-- one more word is read as an entry
pub ReadsEntries-next : (words left after : List (List ℕ)) (entries word : List ℕ) (level value : ℕ) → ReadsEntries words left entries level → left ≡ word ∷ after → length words ≤ levels → entry_fault level word ≡ None → number_of max_entry_word word ≡ Some value → value ≤ max_entry → ReadsEntries words after (set entries level value) (level + 1)
ReadsEntries-next words left after entries word level value r e few none reads bound =
    let (at, inside, behind) = left_of words after word level [] (sym e ∙ r.behind) in
    record {
      whole = length-set entries level value ∙ r.whole;
      behind = behind;
      so_far = omega arith;
      fault = r.fault ∙ ap (entries_fault level) e ∙ ap (λ kind. first_fault kind (entries_fault (level + 1) after)) none;
      read = λ k h. grind (arith, r.whole, r.read k, at, reads, get_or-set_same, get_or-set_other);
      missing = λ k h. grind (arith, r.missing k, get_or-set_other);
      small = λ k. grind (arith, r.whole, r.small k, get_or-set_same, get_or-set_other);
    }

-- no word is left
pub ReadsEntries-end : (words left : List (List ℕ)) (entries : List ℕ) (level : ℕ) → ReadsEntries words left entries level → left ≡ [] → length words ≤ levels → (entries_fault 0 words ≡ None) × (entries ≡ entries_written words)
ReadsEntries-end words left entries level r e few =
    let none : 0 ≡ length (drop level words) = ap length (sym e ∙ r.behind) in
    let whole : level ≡ length words = omega (arith, length-drop level words, r.so_far) in
    (r.fault ∙ ap (entries_fault level) e, same_number_lists entries (entries_written words) (grind (arith, common_steps, r.whole, length-map)) (λ k h. grind (arith, common_steps, r.whole, r.read k, r.missing k, length-map, get_or-map)))

-- the first `done` lines are read into the rows, none was faulty, and these are left
pub record ReadsLines (lines left : List Said) (rows : List (Option (List ℕ))) (done : ℕ) : Type 0 where
  pub one_each : length rows ≡ applications
  pub read : IsReadTo (fault_at lines) lines left done
  pub requests : (app : ℕ) → app < applications → get_or rows app None ≡ request_in (take done lines) app

-- the first row counts
request_in-append : (xs ys : List Said) (app : ℕ) → request_in (xs ++ ys) app ≡ option_or (request_in xs app) (request_in ys app)
request_in-append [] ys app = refl
request_in-append (nothing ∷ xs) ys app = request_in-append xs ys app
request_in-append (wrong kind ∷ xs) ys app = request_in-append xs ys app
request_in-append (row other entries ∷ xs) ys app = grind (arith, nat_tests, request_in-append xs ys app)

-- an application has a request where some line is its row
list_any-row : (xs : List Said) (app : ℕ) → list_any (is_row_of app) xs ≡ is_some (request_in xs app)
list_any-row [] app = refl
list_any-row (nothing ∷ xs) app = list_any-row xs app
list_any-row (wrong kind ∷ xs) app = list_any-row xs app
list_any-row (row other entries ∷ xs) app = grind (arith, nat_tests, list_any-row xs app)

-- a line that is skipped
pub ReadsLines-skipped : (lines left after : List Said) (rows : List (Option (List ℕ))) (done : ℕ) → ReadsLines lines left rows done → left ≡ nothing ∷ after → ReadsLines lines after rows (done + 1)
ReadsLines-skipped lines left after rows done r e =
    let front = IsReadTo-front nothing nothing after r.read e in
    record {
      one_each = r.one_each;
      read = IsReadTo-next nothing after r.read e (ap (fault_after (take done lines)) front.0);
      requests = λ app h. grind (arith, r.requests app, front, request_in-append);
    }

-- the row of an application that has none yet
pub ReadsLines-row : (lines left after : List Said) (rows : List (Option (List ℕ))) (done app : ℕ) (entries : List ℕ) → ReadsLines lines left rows done → left ≡ row app entries ∷ after → app < applications → get_or rows app None ≡ None → ReadsLines lines after (set rows app (Some entries)) (done + 1)
ReadsLines-row lines left after rows done app entries r e small fresh =
    let front = IsReadTo-front (row app entries) nothing after r.read e in
    let no_row : list_any (is_row_of app) (take done lines) ≡ false = list_any-row (take done lines) app ∙ ap is_some (sym (r.requests app small) ∙ fresh) in
    record {
      one_each = length-set rows app (Some entries) ∙ r.one_each;
      read = IsReadTo-next (row app entries) after r.read e (ap (fault_after (take done lines)) front.0 ∙ rw no_row refl);
      requests = λ other h. grind (arith, nat_tests, common_steps, get_or-set_same, get_or-set_other, r.one_each, r.requests app, r.requests other, front, request_in-append);
    }

-- a line that is faulty by itself
pub ReadsLines-wrong : (lines left after : List Said) (rows : List (Option (List ℕ))) (done : ℕ) (kind : RowKind) → ReadsLines lines left rows done → left ≡ wrong kind ∷ after → IsFirstFault lines (record { line = done + 1; kind = kind })
ReadsLines-wrong lines left after rows done kind r e =
    let front = IsReadTo-front (wrong kind) nothing after r.read e in
    IsReadTo-fault (wrong kind) after kind r.read e (ap (fault_after (take done lines)) front.0)

-- a second row of one application
pub ReadsLines-twice : (lines left after : List Said) (rows : List (Option (List ℕ))) (done app : ℕ) (entries : List ℕ) → ReadsLines lines left rows done → left ≡ row app entries ∷ after → app < applications → is_some (get_or rows app None) ≡ true → IsFirstFault lines (record { line = done + 1; kind = AppTwice })
ReadsLines-twice lines left after rows done app entries r e small taken =
    let front = IsReadTo-front (row app entries) nothing after r.read e in
    IsReadTo-fault (row app entries) after AppTwice r.read e (grind (arith, nat_tests, front, list_any-row, r.requests app))

-- no line is left
pub ReadsLines-end : (lines : List Said) (rows : List (Option (List ℕ))) (done : ℕ) → ReadsLines lines [] rows done → AreRows lines rows
ReadsLines-end lines rows done r =
    let end = IsReadTo-end r.read in
    record { one_each = r.one_each; faultless = end.0; requests = λ app h. r.requests app h ∙ ap (λ xs. request_in xs app) end.1 }

-- the lines of a text come to exactly one outcome
pub Reads-ExactlyOne : (lines : List Said) → ExactlyOne (Reads lines)
Reads-ExactlyOne lines =
    IsReading-ExactlyOne (fault_at lines) (length lines) (λ line kind. record { line = line; kind = kind }) (AreRows lines) (IsFirstFault lines) (record {
      faultless = λ rows p. p.faultless;
      answers = λ none. record {
        answer = map (request_in lines) (range_with_len 0 applications);
        is_answer = record {
          one_each = length-map-range_with_len (request_in lines) 0 applications;
          faultless = none;
          requests = λ app h. get_or-map-range_with_len (request_in lines) 0 applications app app None h (omega arith);
        };
        only_answer = λ rows p. fill_by_all (request_in lines) rows applications None p.one_each p.requests;
      };
      faults = λ line kind f. f;
      first = λ fault f. (fault.line, fault.kind, f, refl);
    })
