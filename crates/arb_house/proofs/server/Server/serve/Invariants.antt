-- The server has the same clients and the same queue, and has seen and taken what it had, and maybe more.
use Rattle.std.proofs.Common.{◌≡◌}
use mathlib.Core.List.{IsPrefix}
use Rattle.arb_house.proofs.server.Server.serve.Given as goal

abbrev pub invariant-loop : goal.invariant-loop
invariant-loop g l =
    (goal.iterator-loop g).can_next l.iterator' × (goal.iterator-loop g).is_finite l.iterator'
    × (l.self.clients ≡ l.fn.self.clients) × IsPrefix l.fn.self.seen l.self.seen × IsPrefix l.fn.self.taken l.self.taken × (l.self.queue ≡ l.fn.self.queue)
