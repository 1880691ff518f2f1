use Rattle.std.proofs.Common.{rules}
use Rattle.arb_house.proofs.recorder.Recorder.reserve.Goals as goal

-- (what an edit makes wrong has an answer, so that it is refused at once)
pub returns-in_ok-reserve-clause-ready : goal.returns-in_ok-reserve-clause-ready
returns-in_ok-reserve-clause-ready g c = search rules
