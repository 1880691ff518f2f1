use Rattle.arb_model.proofs.ReadingLaws.{reading_empty, reading_entered, reading_other, reading_posted}
use Rattle.arb_model.proofs.laws.events_change_one_reading.Goals as goal

pub returns : goal.returns
returns c = record { empty = reading_empty; others = reading_other; entered = reading_entered; posted = reading_posted }
