use Rattle.arb_model.proofs.ReadingLaws.{reads_posted}
use Rattle.arb_model.proofs.laws.readings_are_posted.Goals as goal

pub returns : goal.returns
returns c = reads_posted
