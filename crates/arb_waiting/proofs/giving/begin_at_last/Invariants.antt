-- So far each try found the lock taken.
use Rattle.std.specs.Prelude.{◌≡◌, false}
use Rattle.arb_waiting.proofs.TryingLaws.{TriesOn}
use Rattle.arb_waiting.proofs.giving.begin_at_last.Given as goal

abbrev pub invariant-loop : goal.invariant-loop
invariant-loop g l = (goal.iterator-loop g).can_next l.iterator' × (goal.iterator-loop g).is_finite l.iterator' × (l.member.in_turn ≡ false) × TriesOn l.initial.member.side l.member.side
