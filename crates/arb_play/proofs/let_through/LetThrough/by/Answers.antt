use Rattle.std.proofs.Common.{rules}
use Rattle.arb_play.proofs.let_through.LetThrough.by.Goals as goal

pub returns-clause-given_up : goal.returns-clause-given_up
returns-clause-given_up g c = search rules

pub returns-clause-let_through : goal.returns-clause-let_through
returns-clause-let_through g c = search rules
