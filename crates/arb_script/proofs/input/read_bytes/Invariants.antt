use Rattle.std.proofs.Common.{◌≡◌, ◌+◌, ◌-◌, ◌≤◌, length}
use Rattle.std.specs.Io.KnownBytes.{Consumes}
use Rattle.arb_script.proofs.input.read_bytes.Given as goal

-- the bytes so far are what was consumed, and they are one more than the limit at most
abbrev pub invariant-loop-chunk : goal.invariant-loop-chunk
invariant-loop-chunk g l = record {
  all : Consumes (g.R.Source.remaining l.initial.reader) (g.R.Source.remaining l.reader) l.bytes.items;
  within : length l.bytes.items ≤ l.limit + 1;
  kept : g.R.Source.failures l.reader ≡ g.R.Source.failures l.initial.reader;
}

abbrev pub decreases-loop-chunk : goal.decreases-loop-chunk
decreases-loop-chunk g l = l.limit + 1 - length l.bytes.items
