use Rattle.arb_model.proofs.ReadingLaws.{reading_orders}
use Rattle.arb_model.proofs.SettlingLaws.{reads_settled}
use Rattle.arb_model.proofs.laws.readings_follow_standings.Goals as goal

pub returns : goal.returns
returns c = record { orders = reading_orders; settled = reads_settled }
