-- The member has seen on since the call began.
use Rattle.std.specs.Prelude.{◌≡◌, ◌≤◌}
use mathlib.Core.List.{IsPrefix}
use Rattle.arb_waiting.proofs.member.WaitingMember.wait_for_core.Given as goal

abbrev pub invariant-loop : goal.invariant-loop
invariant-loop g l = (goal.iterator-loop g).can_next l.iterator' × (goal.iterator-loop g).is_finite l.iterator'
    × (l.self ≡ record l.initial.self { seen = l.self.seen; steps = l.self.steps }) × (l.initial.self.steps ≤ l.self.steps) × IsPrefix l.initial.self.seen l.self.seen
