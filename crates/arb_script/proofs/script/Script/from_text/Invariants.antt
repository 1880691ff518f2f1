use Rattle.std.proofs.Common.{◌+◌, ◌≤◌, length}
use Rattle.arb_script.specs.Script.{said_in}
use Rattle.arb_script.proofs.ScriptLaws.{ReadsLines}
use Rattle.arb_script.proofs.script.Script.from_text.Given as goal

abbrev pub decreases-loop-rest : goal.decreases-loop-rest
decreases-loop-rest l = length l.rest

-- the lines before the rest are read
abbrev pub invariant-loop-rest : goal.invariant-loop-rest
invariant-loop-rest l = record {
  reads : ReadsLines (said_in l.text) (said_in l.rest) l.orders l.line_number;
  bytes : l.line_number + length l.rest ≤ length l.text;
}
