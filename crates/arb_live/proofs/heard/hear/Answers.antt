use Rattle.std.proofs.Common.{arith, sym, ◌∙◌}
use Rattle.arb_script.specs.Script.{nothing, gives, wrong}
use Rattle.arb_live.proofs.HeardLaws.{heard_no_text, heard_owners, heard_said, is_no_text, is_text, said_none, said_some}
use Rattle.arb_live.proofs.heard.hear.Goals as goal

pub returns-then-is_err : goal.returns-then-is_err
returns-then-is_err c =
    heard_no_text c.args.line.now (omega arith) (is_no_text _ _ c.from_utf8.result c.from_utf8.ensures.cases (sym c.is_err.ensures.value ∙ c.if-is_err.true)).1.0

pub returns-then-asks_owners : goal.returns-then-asks_owners
returns-then-asks_owners c =
    heard_owners c.args.line.now (omega arith) (is_text _ _ c.from_utf8.result c.from_utf8.ensures.cases (sym c.is_err.ensures.value ∙ c.if-is_err.false)).1.1 (sym c.asks_owners.ensures ∙ c.if-asks_owners.true)

pub returns-in-Ok-None : goal.returns-in-Ok-None
returns-in-Ok-None c =
    heard_said c.args.line.now nothing (omega arith) (is_text _ _ c.from_utf8.result c.from_utf8.ensures.cases (sym c.is_err.ensures.value ∙ c.if-is_err.false)).1.1 (sym c.asks_owners.ensures ∙ c.if-asks_owners.false) (said_none c.args.line.now _ c.in-Ok-None.field-0-is (c.in-Ok-None.ensures {u = tt}).said)

pub returns-in-Ok-Some : goal.returns-in-Ok-Some
returns-in-Ok-Some c =
    heard_said c.args.line.now (gives c.in-Ok-Some.given) (omega arith) (is_text _ _ c.from_utf8.result c.from_utf8.ensures.cases (sym c.is_err.ensures.value ∙ c.if-is_err.false)).1.1 (sym c.asks_owners.ensures ∙ c.if-asks_owners.false) (said_some c.args.line.now _ _ c.in-Ok-Some.field-0-is (c.in-Ok-Some.ensures {u = tt}).said)

pub returns-in-Err : goal.returns-in-Err
returns-in-Err c =
    heard_said c.args.line.now (wrong c.in-Err.kind) (omega arith) (is_text _ _ c.from_utf8.result c.from_utf8.ensures.cases (sym c.is_err.ensures.value ∙ c.if-is_err.false)).1.1 (sym c.asks_owners.ensures ∙ c.if-asks_owners.false) (c.in-Err.ensures {u = tt}).said
