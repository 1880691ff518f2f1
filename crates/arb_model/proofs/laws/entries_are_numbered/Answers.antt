use Rattle.arb_model.proofs.EntryLaws.{counts_entries, numbers_entries}
use Rattle.arb_model.proofs.laws.entries_are_numbered.Goals as goal

pub returns : goal.returns
returns c = record { counts = counts_entries; numbers = numbers_entries }
