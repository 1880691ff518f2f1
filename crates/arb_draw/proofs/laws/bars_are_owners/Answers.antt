use Rattle.arb_draw.proofs.BarLaws.{bars_are_owners as law}
use Rattle.arb_draw.proofs.laws.bars_are_owners.Goals as goal

pub returns : goal.returns
returns c = law
