use Rattle.std.proofs.Common.{◌≡◌, take}
use Rattle.arb_live.specs.Events.{puts}
use Rattle.test_live.proofs.conversation.puts.Given as goal

-- the bytes so far were written
abbrev pub invariant-loop-byte : goal.invariant-loop-byte
invariant-loop-byte l = l.events.items ≡ puts (take l.byte-index l.bytes)
