use Rattle.arb_model.proofs.PostedLaws.{no_core_twice}
use Rattle.arb_model.proofs.ReadingLaws.{no_core_read_twice}
use Rattle.arb_model.proofs.laws.no_core_is_posted_twice.Goals as goal

pub returns : goal.returns
returns c = record { posted = no_core_twice; read = no_core_read_twice }
