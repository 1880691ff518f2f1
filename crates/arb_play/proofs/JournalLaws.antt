-- The journal report of an outcome, piece by piece.
use Rattle.std.proofs.Common.{◌≡◌, ℕ, ◌+◌, ◌<◌, List, [], ◌++◌, length, drop, get_or, ap, refl, arith}
use Rattle.std.proofs.lemmas.List.{drop_more}
use Rattle.arb_config.specs.Machine.{Machine}
use Rattle.arb_model.specs.declared.orders.Entry.{Entry}
use Rattle.arb_script.specs.declared.given.ClientOrder.{ClientOrder}
use Rattle.arb_script.specs.Printed.{entry_text}
use Rattle.arb_script.specs.Table.{table_text}
use Rattle.arb_play.specs.declared.outcome.Outcome.{Outcome}
use Rattle.arb_play.specs.Outcomes.{IsOutcome, full_orders}
use Rattle.arb_play.specs.JournalReport.{ReportsJournal, entry_lines, full_lines, journal_report}

-- the text of an outcome
abbrev pub text_of : (m : Machine) (script : List ClientOrder) (o : Outcome) → IsOutcome m script o → List ℕ
text_of m script o is = journal_report m is.history (full_orders o.full_from script)

-- it is the journal report
pub reports : (m : Machine) (script : List ClientOrder) (o : Outcome) (is : IsOutcome m script o) → ReportsJournal m script (text_of m script o is)
reports m script o is = record { history = is.history; full = full_orders o.full_from script; comes = is.comes; is = refl }

-- its pieces, as they are written
pub pieces : (m : Machine) (script : List ClientOrder) (o : Outcome) (is : IsOutcome m script o) (out : List ℕ) (journal : List Entry) → out ≡ [] → journal ≡ o.journal.items
    → text_of m script o is ≡ ((out ++ entry_lines journal) ++ full_lines (full_orders o.full_from script)) ++ table_text m o.core.standing.seats
pieces m script o is out journal none same =
    let seats = ap (λ a. a.standing.seats) is.core in
    grind (arith, is.journal)

-- the lines of the entries from an index on are that of the entry there and those after it
pub entries_next : (journal : List Entry) (index : ℕ) (entry : Entry) (line : List ℕ) → index < length journal → entry ≡ get_or journal index entry → line ≡ entry_text entry.client entry.order entry.reply → entry_lines (drop index journal) ≡ line ++ entry_lines (drop (index + 1) journal)
entries_next journal index entry line within here is = grind (arith, drop_more journal index entry within)
