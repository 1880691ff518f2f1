use Rattle.arb_model.proofs.JournalLaws.{counts_all_entries, counts_own_entries, entries_append, entries_begin, entries_join, entries_stay, own_entries_begin, were_entered}
use Rattle.arb_model.proofs.laws.entries_stay.Goals as goal

pub returns : goal.returns
returns c = record { count = counts_all_entries; own = counts_own_entries; join = entries_join; begin = entries_begin; own_begin = own_entries_begin; stay = entries_stay; append = entries_append; entered = were_entered }
