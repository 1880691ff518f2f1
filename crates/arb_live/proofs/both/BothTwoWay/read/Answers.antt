use Rattle.arb_live.proofs.BothLaws.{both_read}
use Rattle.arb_live.proofs.both.BothTwoWay.read.Goals as goal

pub returns-else-is_err-clause-came : goal.returns-else-is_err-clause-came
returns-else-is_err-clause-came g c = both_read _ _ _ c.read-result.result c.read-result.new.buf c.read-result.ensures.bytes
