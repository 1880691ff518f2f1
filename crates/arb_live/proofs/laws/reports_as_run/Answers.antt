use Rattle.arb_live.proofs.RunLaws.{reports_as_run as law}
use Rattle.arb_live.proofs.laws.reports_as_run.Goals as goal

pub returns : goal.returns
returns c = law
