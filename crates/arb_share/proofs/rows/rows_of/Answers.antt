use Rattle.std.proofs.Common.{arith, tests}
use Rattle.std.proofs.lemmas.List.{get_or_default}
use Rattle.arb_share.proofs.TextLaws.{empty-is, lines_say}
use Rattle.arb_share.proofs.RowsLaws.{ReadsLines-skipped, ReadsLines-row, ReadsLines-wrong, ReadsLines-twice, ReadsLines-end}
use Rattle.arb_share.proofs.rows.rows_of.Goals as goal

pub returns-then-is_some-clause-fault : goal.returns-then-is_some-clause-fault
returns-then-is_some-clause-fault c =
    let (says, small) = rw c.in-Ok-Some.field-0-is at c.in-Ok-Some.ensures in
    ReadsLines-twice _ _ _ c.loop-rest.rows c.loop-rest.line_number c.in-Ok-Some.field-0-0.app _ c.loop-rest.invariant.reads (lines_say _ c.loop-rest.rest.now c.split_line.result.0.now c.split_line.result.1.now _ c.split_line.ensures.lines says) small (grind (arith, c.if-is_some.ensures, get_or_default))

pub returns-in-Err-clause-fault : goal.returns-in-Err-clause-fault
returns-in-Err-clause-fault c =
    ReadsLines-wrong _ _ _ _ _ _ c.loop-rest.invariant.reads (lines_say _ c.loop-rest.rest.now c.split_line.result.0.now c.split_line.result.1.now _ c.split_line.ensures.lines c.in-Err.ensures)

pub loop-rest-preserved-in-Ok-None : goal.loop-rest-preserved-in-Ok-None
loop-rest-preserved-in-Ok-None c =
    let says = rw c.in-Ok-None.field-0-is at (c.in-Ok-None.ensures {u = tt}) in
    record { reads = ReadsLines-skipped _ _ _ _ _ c.loop-rest.invariant.reads (lines_say _ c.loop-rest.rest.now c.split_line.result.0.now c.split_line.result.1.now _ c.split_line.ensures.lines says); bytes = omega arith }

pub loop-rest-preserved : goal.loop-rest-preserved
loop-rest-preserved c =
    let (says, small) = rw c.in-Ok-Some.field-0-is at c.in-Ok-Some.ensures in
    record {
      reads = ReadsLines-row _ _ _ _ _ _ _ c.loop-rest.invariant.reads (lines_say _ c.loop-rest.rest.now c.split_line.result.0.now c.split_line.result.1.now _ c.split_line.ensures.lines says) small (grind (arith, c.if-is_some.ensures, get_or_default));
      bytes = omega arith;
    }

pub returns-clause-rows : goal.returns-clause-rows
returns-clause-rows c = grind (arith, tests, empty-is c.loop-rest.rest.now, ReadsLines-end)
