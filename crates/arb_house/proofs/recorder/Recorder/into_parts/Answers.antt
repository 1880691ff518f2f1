use Rattle.std.proofs.Common.{rules}
use Rattle.arb_house.proofs.recorder.Recorder.into_parts.Goals as goal

-- (what an edit makes wrong has an answer, so that it is refused at once)
pub returns-clause-journal : goal.returns-clause-journal
returns-clause-journal g c = search rules

pub returns-clause-room : goal.returns-clause-room
returns-clause-room g c = search rules
