use Rattle.arb_live.proofs.BothLaws.{both_wrote}
use Rattle.arb_live.proofs.both.BothTwoWay.write.Goals as goal

pub returns-clause-written : goal.returns-clause-written
returns-clause-written g c = both_wrote _ _ _ _ c.in-Ok.ensures.bytes
