use Rattle.arb_model.proofs.JournalLaws.{numbers_own_entries, one_of_each_number}
use Rattle.arb_model.proofs.laws.own_entries_are_numbered.Goals as goal

pub returns : goal.returns
returns c = record { numbers = numbers_own_entries; once = one_of_each_number }
