use Rattle.std.proofs.Common.{rules}
use Rattle.arb_play.proofs.hold.HoldGate.is_let_through_by.Goals as goal

pub returns-then-not-goes-clause-turns : goal.returns-then-not-goes-clause-turns
returns-then-not-goes-clause-turns g c = (c.args.self.now.limit, search rules, c.take_turns-goes.ensures.used_up (search rules))
