use Rattle.std.proofs.Common.{◌≡◌, ◌-◌, length, take, drop, take_all, length-drop, arith, rules, tests, refl, sym, append-nil}
use Rattle.std.proofs.lemmas.Grind.{common_steps}
use Rattle.arb_share.proofs.TextLaws.{lines_say}
use Rattle.arb_script.proofs.LineLaws.{said_first}
use Rattle.arb_script.proofs.ScriptLaws.{ReadsLines-next, ReadsLines-wrong, ReadsLines-stops}
use Rattle.arb_script.proofs.script.Script.from_text.Goals as goal

pub returns-then-is_err-clause-memory : goal.returns-then-is_err-clause-memory
returns-then-is_err-clause-memory c = λ e.
    rw c.no_room.ensures (ReadsLines-stops _ _ _ _ _ _ c.loop-rest.invariant.reads (said_first _ _ _ c.in-Some.ensures.line))

pub returns-then-is_err-2-clause-memory : goal.returns-then-is_err-2-clause-memory
returns-then-is_err-2-clause-memory c = λ e.
    let says = rw c.in-Ok-Some.field-0-is at c.in-Ok-Some.ensures.said in
    rw c.no_room-then-is_err-2.ensures (ReadsLines-stops _ _ _ _ _ _ c.loop-rest.invariant.reads (lines_say _ c.loop-rest.rest.now c.split_line.result.0.now c.split_line.result.1.now _ c.split_line.ensures.lines says))

pub returns-in-Err-clause-fault : goal.returns-in-Err-clause-fault
returns-in-Err-clause-fault c = λ e.
    ReadsLines-wrong _ _ _ _ _ _ c.loop-rest.invariant.reads (lines_say _ c.loop-rest.rest.now c.split_line.result.0.now c.split_line.result.1.now _ c.split_line.ensures.lines c.in-Err.ensures.said)

pub returns-in-Err-clause-memory : goal.returns-in-Err-clause-memory
returns-in-Err-clause-memory c = λ e. absurd (c.in-Err.ensures.no_memory e)

pub loop-rest-preserved-in-Ok-None : goal.loop-rest-preserved-in-Ok-None
loop-rest-preserved-in-Ok-None c =
    let says = rw c.in-Ok-None.field-0-is at ((c.in-Ok-None.ensures {u = tt}).said) in
    record {
      reads = ReadsLines-next _ _ _ _ _ _ _ c.loop-rest.invariant.reads (lines_say _ c.loop-rest.rest.now c.split_line.result.0.now c.split_line.result.1.now _ c.split_line.ensures.lines says) refl (sym (append-nil _));
      bytes = omega arith;
    }

pub loop-rest-preserved : goal.loop-rest-preserved
loop-rest-preserved c =
    let says = rw c.in-Ok-Some.field-0-is at c.in-Ok-Some.ensures.said in
    record {
      reads = ReadsLines-next _ _ _ _ _ _ _ c.loop-rest.invariant.reads (lines_say _ c.loop-rest.rest.now c.split_line.result.0.now c.split_line.result.1.now _ c.split_line.ensures.lines says) refl (search (rules, tests));
      bytes = omega arith;
    }

pub loop-rest-preserved-in-Some : goal.loop-rest-preserved-in-Some
loop-rest-preserved-in-Some c =
    let back : take (length c.loop-rest.rest.now - c.in-Some.used) (drop c.in-Some.used c.loop-rest.rest.now) ≡ drop c.in-Some.used c.loop-rest.rest.now = take_all _ _ (omega (arith, length-drop c.in-Some.used c.loop-rest.rest.now)) in
    record {
      reads = ReadsLines-next _ _ _ _ _ _ _ c.loop-rest.invariant.reads (rw (← back) at (said_first _ _ _ c.in-Some.ensures.line)) refl (search (rules, tests));
      bytes = grind (arith, length-drop, back, c.in-Some.ensures.some, c.in-Some.ensures.within, c.loop-rest.invariant.bytes);
    }

pub returns-clause-script : goal.returns-clause-script
returns-clause-script c = grind (arith, common_steps)
