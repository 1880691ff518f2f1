-- As many posts follow as at the start; each post is a step, and makes the stale words one fewer.
use Rattle.std.specs.Prelude.{◌≡◌, ◌+◌, true, length}
use Rattle.arb_model.specs.History.{settled_from}
use Rattle.arb_common.specs.Giving.{stale_after}
use Rattle.arb_waiting.proofs.giving.post_all.Given as goal

abbrev pub invariant-loop-word : goal.invariant-loop-word
invariant-loop-word l = record {
  turn : l.member.in_turn ≡ true;
  side : l.member.side ≡ record l.initial.member.side { seen = l.member.side.seen; steps = l.member.side.steps };
  steps : l.member.side.steps + length l.initial.member.side.seen ≡ l.initial.member.side.steps + length l.member.side.seen;
  settles : settled_from l.initial.member.side.machine l.member.side.seen ≡ settled_from l.initial.member.side.machine l.initial.member.side.seen;
}

abbrev pub decreases-loop-word : goal.decreases-loop-word
decreases-loop-word l = stale_after l.member.side.machine l.member.side.seen
