use Rattle.std.proofs.Common.{◌≡◌, ◌≢◌, ℕ, ◌+◌, List, [], ◌∷◌, Some, Ok, Err, arith}
use Rattle.std.proofs.lemmas.Bool.Decides.{nat_tests}
use Rattle.arb_share.specs.declared.rows.RowKind.{RowKind}
use Rattle.arb_share.specs.declared.rows.RowKind.TheVariants.{EntryCount}
use Rattle.arb_share.specs.Text.{words_of}
use Rattle.arb_share.specs.Rows.{row, wrong, entry_fault, entries_fault, said_of_row}
use Rattle.arb_script.specs.declared.fault.ScriptKind.{ScriptKind}
use Rattle.arb_script.specs.declared.fault.ScriptKind.TheVariants.{BadNumber as bad_number, WordCount}
use Rattle.arb_script.specs.Script.{entries_in}
use Rattle.arb_script.proofs.line.read_entries.Goals as goal

-- a word's fault as an entry is never that of their number
entry_fault-never : (level : ℕ) (word : List ℕ) → entry_fault level word ≢ Some EntryCount
entry_fault-never level word e = grind (arith, nat_tests)

entries_fault-never : (level : ℕ) (words : List (List ℕ)) → entries_fault level words ≢ Some EntryCount
entries_fault-never level [] e = cc
entries_fault-never level (word ∷ words) e = grind (arith, nat_tests, entry_fault-never level word, entries_fault-never (level + 1) words)

-- words that are a row's entries
entries_in-row : (words : List (List ℕ)) (request : List ℕ) → said_of_row (Some 0) words ≡ row 0 request → Ok request ≡ entries_in words
entries_in-row words request says = grind (arith, nat_tests)

-- a row's fault, and what a script makes of it
entries_in-wrong : (words : List (List ℕ)) (kind : RowKind) (fault : ScriptKind) → said_of_row (Some 0) words ≡ wrong kind → (kind ≡ EntryCount → fault ≡ WordCount) → (kind ≢ EntryCount → fault ≡ bad_number) → Err fault ≡ entries_in words
entries_in-wrong words kind fault says count number = grind (arith, nat_tests, entries_fault-never 0 words)

pub returns-in-Ok-clause-request : goal.returns-in-Ok-clause-request
returns-in-Ok-clause-request c = entries_in-row (words_of c.args.words.now) c.in-Ok.request (c.in-Ok.ensures 0)

pub returns-in-Err-clause-request : goal.returns-in-Err-clause-request
returns-in-Err-clause-request c =
    entries_in-wrong (words_of c.args.words.now) c.in-Err.kind c.entries_fault_kind.result (c.in-Err.ensures 0) c.entries_fault_kind.ensures.count c.entries_fault_kind.ensures.number
