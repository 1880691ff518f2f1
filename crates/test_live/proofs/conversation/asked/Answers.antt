use Rattle.std.proofs.Common.{refl, arith}
use Rattle.std.specs.Prelude.{slice_index}
use Rattle.test_live.proofs.LogLaws.{asked_next}
use Rattle.test_live.proofs.conversation.asked.Goals as goal

pub loop-byte-preserved : goal.loop-byte-preserved
loop-byte-preserved c =
    asked_next c.args.bytes.now c.loop-byte.byte-index (slice_index c.args.bytes.now c.loop-byte.byte-index) c.loop-byte.events.items c.push-in-loop-byte.new.self.items (omega arith) refl c.loop-byte.invariant (c.in_ok-push-2.ensures {u = tt}).items
