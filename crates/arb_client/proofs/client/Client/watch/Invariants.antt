-- The client has seen on since the call began, and looked for the server's end.
use Rattle.arb_client.specs.Sides.{LooksOn}
use Rattle.arb_client.proofs.client.Client.watch.Given as goal

abbrev pub invariant-loop : goal.invariant-loop
invariant-loop g l = (goal.iterator-loop g).can_next l.iterator' × (goal.iterator-loop g).is_finite l.iterator' × LooksOn l.initial.self l.self
