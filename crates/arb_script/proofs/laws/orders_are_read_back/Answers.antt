use Rattle.arb_script.proofs.ReadBackLaws.{given_text-reads_back}
use Rattle.arb_script.proofs.laws.orders_are_read_back.Goals as goal

pub returns : goal.returns
returns c = given_text-reads_back
