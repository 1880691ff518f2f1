use Rattle.std.proofs.Common.{◌≡◌, ◌-◌, ◌≤◌, length, take}
use Rattle.std.specs.Io.KnownBytes.{Consumes}
use Rattle.arb_share.proofs.streams.fill.Given as goal

-- what was filled is what was consumed
abbrev pub invariant-loop-filled : goal.invariant-loop-filled
invariant-loop-filled g l = record {
  long : length l.buffer ≡ length l.initial.buffer;
  within : l.filled ≤ length l.buffer;
  bytes : Consumes (g.R.Source.remaining l.initial.reader) (g.R.Source.remaining l.reader) (take l.filled l.buffer);
  kept : g.R.Source.failures l.reader ≡ g.R.Source.failures l.initial.reader;
}

abbrev pub decreases-loop-filled : goal.decreases-loop-filled
decreases-loop-filled g l = length l.initial.buffer - l.filled
