use Rattle.std.proofs.Common.{◌≤◌, length}
use Rattle.arb_script.proofs.EntriesLaws.{ReadsOn}
use Rattle.arb_script.proofs.usual.usual_entries.Given as goal

-- the entries of the levels before this one are read
abbrev pub invariant-loop-level : goal.invariant-loop-level
invariant-loop-level l = record {
  reads : ReadsOn l.text l.rest l.entries l.level;
  short : length l.rest ≤ length l.text;
}
