-- The client has seen on since the call began, and may have got more room.
use Rattle.arb_client.specs.Sides.{GainsRoom}
use Rattle.arb_client.proofs.client.Client.post_at_last.Given as goal

abbrev pub invariant-loop : goal.invariant-loop
invariant-loop g l = (goal.iterator-loop g).can_next l.iterator' × (goal.iterator-loop g).is_finite l.iterator' × GainsRoom l.initial.self l.self
