-- The client is the same, of the same queue, and has seen on; it has the answered orders that it had, and then replies to open ones; it put no more; and once closed to orders it stays so. It has no more orders, answered or open. If it was closed to orders in the close, that was after these collects. Its list of replies has the capacity that it had. Each collect leaves fewer orders open.
use Rattle.std.proofs.Common.{◌≡◌, ◌≤◌, ◌+◌, true, length}
use mathlib.Core.List.{IsPrefix}
use Rattle.arb_client.proofs.ClosingLaws.{Closes, HasReplies}
use Rattle.arb_client.proofs.client.Client.close.Given as goal

abbrev pub invariant-loop-self : goal.invariant-loop-self
invariant-loop-self g l =
    (l.self.id ≡ l.fn.self.id) × IsPrefix l.fn.self.seen l.self.seen × HasReplies g.K.Set.machine l.fn.self l.self × (l.self.put ≡ l.fn.self.put) × (l.fn.self.shut ≡ true → l.self.shut ≡ true) × Closes g.K.Set.machine l.fn.self l.self × (l.self.queue ≡ l.fn.self.queue)
    × (length l.self.mine + length l.self.out ≤ length l.fn.self.mine + length l.fn.self.out) × (length l.self.mine + length l.self.out + l.self.room ≡ length l.fn.self.mine + length l.fn.self.out + l.fn.self.room)

abbrev pub decreases-loop-self : goal.decreases-loop-self
decreases-loop-self g l = length l.self.out
