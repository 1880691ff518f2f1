use Rattle.std.proofs.Common.{rules}
use Rattle.arb_script.proofs.runner.read_script.Goals as goal

pub returns-in_err-text-clause-refused : goal.returns-in_err-text-clause-refused
returns-in_err-text-clause-refused g c = search rules

pub returns-in_err-text-clause-not_text : goal.returns-in_err-text-clause-not_text
returns-in_err-text-clause-not_text g c = search rules
