use Rattle.std.proofs.Common.{◌≡◌, ◌<◌, ℕ, get_or, length}
use Rattle.arb_share.specs.Limits.{levels}
use Rattle.arb_c.proofs.wire.request_of.Given as goal

abbrev pub invariant-loop-level : goal.invariant-loop-level
invariant-loop-level l =
    (length l.request ≡ levels) × (length l.cores ≡ levels) × ((k : ℕ) → k < l.level → get_or l.cores k 0 ≡ get_or l.request k 0)
