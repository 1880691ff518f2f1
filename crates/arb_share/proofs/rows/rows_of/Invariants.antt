use Rattle.std.proofs.Common.{◌+◌, ◌≤◌, length}
use Rattle.arb_share.specs.Rows.{said_in}
use Rattle.arb_share.proofs.RowsLaws.{ReadsLines}
use Rattle.arb_share.proofs.rows.rows_of.Given as goal

abbrev pub invariant-loop-rest : goal.invariant-loop-rest
invariant-loop-rest l = record {
  reads : ReadsLines (said_in l.input) (said_in l.rest) l.rows l.line_number;
  bytes : l.line_number + length l.rest ≤ length l.input;
}

abbrev pub decreases-loop-rest : goal.decreases-loop-rest
decreases-loop-rest l = length l.rest
