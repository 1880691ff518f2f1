use Rattle.arb_live.proofs.OrdersLaws.{endless_is_never_full as law}
use Rattle.arb_live.proofs.laws.endless_is_never_full.Goals as goal

pub returns : goal.returns
returns c = law
