-- The journal report of a script on threads: the orders that were entered, those past the limit, and who has each core at the end.
use Rattle.std.specs.Prelude.{◌≡◌, ℕ, List, ◌++◌, slice_index, take, drop}
use Rattle.std.specs.List.{flat_map}
use Rattle.arb_config.specs.Machine.{Machine}
use Rattle.arb_model.specs.declared.orders.Entry.{Entry}
use Rattle.arb_model.specs.History.{History, entries_of, state_after}
use Rattle.arb_script.specs.declared.given.ClientOrder.{ClientOrder}
use Rattle.arb_script.specs.Printed.{entry_text, full_text}
use Rattle.arb_script.specs.Table.{table_text}
use Rattle.arb_play.specs.Scripts.{ComesOf, full_in}

-- the lines of entries, in their order
abbrev pub entry_lines : List Entry → List ℕ
entry_lines entries = flat_map (λ e. entry_text e.client e.order e.reply) entries

-- the lines of orders past the limit, in their order
abbrev pub full_lines : List ClientOrder → List ℕ
full_lines full = flat_map (λ given. full_text given.client given.order) full

-- the order at an index of a script, where it is past the limit, and none where it isn't
abbrev pub full_at : (full_from : List ℕ) → (script : List ClientOrder) → (index : ℕ) → List ClientOrder
full_at full_from script index = full_in (slice_index full_from) index (take 1 (drop index script))

-- the journal report of a history and of orders past the limit
abbrev pub journal_report : Machine → History → (full : List ClientOrder) → List ℕ
journal_report m h full = entry_lines (entries_of h) ++ full_lines full ++ table_text m (state_after m h).standing.seats

-- a text is the journal report of a history that came of the script, and of the orders of the script that this doesn't have
pub record ReportsJournal (m : Machine) (script : List ClientOrder) (text : List ℕ) : Type 0 where
  pub history : History
  pub full : List ClientOrder
  pub comes : ComesOf m script history full
  pub is : text ≡ journal_report m history full
