use Rattle.arb_draw.proofs.BarLaws.{bars_are_longest as law}
use Rattle.arb_draw.proofs.laws.bars_are_longest.Goals as goal

pub returns : goal.returns
returns c = law
