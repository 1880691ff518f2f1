use Rattle.std.proofs.Common.{◌≡◌, take}
use Rattle.arb_live.specs.Events.{asked}
use Rattle.test_live.proofs.conversation.asked.Given as goal

-- the bytes so far came
abbrev pub invariant-loop-byte : goal.invariant-loop-byte
invariant-loop-byte l = l.events.items ≡ asked (take l.byte-index l.bytes)
