use Rattle.arb_desk.proofs.RuleLaws.{begins}
use Rattle.arb_desk.proofs.queue.open_queue.Goals as goal

pub ruled-requires-clause-rule : goal.ruled-requires-clause-rule
ruled-requires-clause-rule c = begins
