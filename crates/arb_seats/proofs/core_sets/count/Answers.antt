use Rattle.std.proofs.Common.{arith}
use Rattle.arb_seats.proofs.PositionSetsLaws.{set-count}
use Rattle.arb_seats.proofs.core_sets.count.Goals as goal

pub returns : goal.returns
returns c = λ n passes few s. set-count c.args.bits n passes (omega arith) few s
