use Rattle.std.proofs.Common.{arith, subst, sym}
use Rattle.arb_house.specs.Clients.{HaveClosed}
use Rattle.arb_house.specs.Serving.{AllClosed, ServerState}
use Rattle.arb_house.proofs.server.Server.all_closed.Goals as goal

pub returns-clause-closed : goal.returns-clause-closed
returns-clause-closed g c = λ yes.
    let have = c.all_closed.ensures.0 yes in
    subst (λ (s : ServerState). AllClosed s.clients s.taken) c.self.view_is (λ index client at. c.self.invariant.3 index client at (have index client at))

pub returns-clause-open : goal.returns-clause-open
returns-clause-open g c = λ no have.
    let yes = c.all_closed.ensures.1 (subst (λ (s : ServerState). HaveClosed (record { list = s.clients; closed = s.closed })) (sym c.self.view_is) have) in
    grind (arith, no, yes)
