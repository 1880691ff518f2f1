use Rattle.std.proofs.Common.{List, ◌++◌, ◌∙◌, append_assoc, rules, subst}
use mathlib.Core.List.{IsPrefix}
use Rattle.arb_house.specs.Clients.{HaveClosed}
use Rattle.arb_house.specs.Serving.{ServerState}
use Rattle.arb_house.proofs.server.Server.serve.Goals as goal

prefix_on : {A : Type 0} (a b c : List A) → IsPrefix a b → IsPrefix b c → IsPrefix a c
prefix_on a b c p q = (p.0 ++ q.0, rw (← q.1, ← p.1, append_assoc a p.0 q.0))

pub loop-preserved : goal.loop-preserved
loop-preserved g c =
    let was = c.loop.invariant in
    let turned = c.in-Err-NoMessage.ensures {u = tt} in
    (tt, tt, turned.clients ∙ was.2, prefix_on _ _ _ was.3 turned.later, prefix_on _ _ _ was.4 turned.taken, turned.queue ∙ was.5)

pub loop-preserved-in-Ok : goal.loop-preserved-in-Ok
loop-preserved-in-Ok g c =
    let was = c.loop.invariant in
    let turned = c.in-Ok.ensures {u = tt} in
    (tt, tt, turned.clients ∙ was.2, prefix_on _ _ _ was.3 turned.later, prefix_on _ _ _ was.4 turned.taken, turned.queue ∙ was.5)

pub end-requires-clause-closed : goal.end-requires-clause-closed
end-requires-clause-closed g c = search rules

-- who has closed is as before
pub end-requires-clause-open : goal.end-requires-clause-open
end-requires-clause-open g c = λ _ have.
    let turned = c.in-Err-Memory.ensures {u = tt} in
    c.all_closed.ensures.open c.if-all_closed.false (subst (λ (s : ServerState). HaveClosed (record { list = s.clients; closed = s.closed })) turned.untaken have)

pub turn-requires : goal.turn-requires
turn-requires g c = record { «open» = c.all_closed.ensures.open c.if-all_closed.false }
