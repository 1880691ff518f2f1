use Rattle.std.proofs.Common.{refl}
use Rattle.arb_core.proofs.state.ArbiterState.new.Goals as goal

pub returns-clause-opening : goal.returns-clause-opening
returns-clause-opening c = rw (c.new-requests.ensures, c.new.ensures, c.new-2.ensures) refl
