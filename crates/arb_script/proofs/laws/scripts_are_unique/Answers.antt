use Rattle.arb_script.proofs.ScriptLaws.{Reads-ExactlyOne}
use Rattle.arb_script.proofs.laws.scripts_are_unique.Goals as goal

pub returns : goal.returns
returns c = Reads-ExactlyOne
