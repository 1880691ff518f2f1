use Rattle.std.proofs.Common.{◌≡◌, ℕ, ◌-◌, ◌<◌, ◌≤◌, length, sum, take, min, slice_index}
use Rattle.arb_share.specs.Limits.{levels}
use Rattle.arb_share.proofs.request.Request.cut.Given as goal

-- what the levels so far keep, and what they leave of the cap
abbrev pub invariant-loop-level : goal.invariant-loop-level
invariant-loop-level l = record {
  one_each : length l.entries ≡ levels;
  whole : length l.self-inside.entries ≡ levels;
  kept : (k : ℕ) → k < l.level → slice_index l.entries k ≡ min (l.cap - sum (take k l.self-inside.entries)) (slice_index l.self-inside.entries k);
  later : (k : ℕ) → l.level ≤ k → slice_index l.entries k ≡ 0;
  left : l.left ≡ l.cap - sum (take l.level l.self-inside.entries);
}
