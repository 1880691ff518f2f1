use Rattle.std.proofs.Common.{◌≡◌, arith, slice_set}
use Rattle.arb_script.proofs.EntriesLaws.{ReadsOn-none, ReadsOn-next, ReadsOn-last}
use Rattle.arb_script.proofs.LineLaws.{entries_at, number_length}
use Rattle.arb_script.proofs.usual.usual_entries.Goals as goal

pub loop-level-init : goal.loop-level-init
loop-level-init c = record { reads = ReadsOn-none c.args.text.now; short = omega arith }

pub loop-level-preserved : goal.loop-level-preserved
loop-level-preserved c =
    let entry = c.in_ok-value.ensures {u = tt} in
    record {
      reads = ReadsOn-next _ c.loop-level.rest.now c.in_ok-value.after.now _ _ c.in_ok-value.value c.loop-level.invariant.reads (rw c.if-behind-ne32.false at entry.number) entry.within;
      short = omega (arith, number_length _ _ _ _ _ entry.number);
    }

pub overflow_sub-result : goal.overflow_sub-result
overflow_sub-result c = omega (arith, number_length _ _ _ _ _ (c.in_ok-value.ensures {u = tt}).number)

pub returns-then-behind-eq10-clause-entries : goal.returns-then-behind-eq10-clause-entries
returns-then-behind-eq10-clause-entries c =
    let entry = c.in_ok-value.ensures {u = tt} in
    let read = ReadsOn-last _ c.loop-level.rest.now c.in_ok-value.after.now _ _ c.in_ok-value.value c.loop-level.invariant.reads c.loop-level-test.true (rw c.if-behind-eq10.true at entry.number) entry.within in
    let same : c.in_ok-ok.field-0 ≡ slice_set c.loop-level.entries c.loop-level.level c.in_ok-value.value = grind (arith, c.new.ensures.entries, c.ok.ensures.value, c.in_ok-ok.was) in
    rw same (entries_at _ _ _ read)
