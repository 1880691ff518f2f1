use Rattle.std.proofs.Common.{◌≡◌, []}
use Rattle.example_clock.proofs.tell_time.Given as goal

-- no order is open between two ticks
abbrev pub invariant-loop : goal.invariant-loop
invariant-loop g l = l.clock.out ≡ []
