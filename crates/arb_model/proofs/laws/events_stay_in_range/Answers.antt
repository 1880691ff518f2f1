use Rattle.arb_model.proofs.EntryLaws.{entries_have_room, room_to_enter}
use Rattle.arb_model.proofs.ReadingLaws.{post_of_word}
use Rattle.arb_model.proofs.laws.events_stay_in_range.Goals as goal

pub returns : goal.returns
returns c = record { entries = entries_have_room; next = room_to_enter; words = post_of_word }
