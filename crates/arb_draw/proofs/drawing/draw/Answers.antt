use Rattle.std.proofs.Common.{◌∙◌, inr}
use Rattle.std.specs.Io.KnownBytes.{Appends}
use Rattle.arb_share.specs.Streams.{AppendsPrefix}
use Rattle.std.proofs.lemmas.Result.{err_from_is_err_and}
use Rattle.arb_draw.proofs.RecordLaws.{chose_of, of_drawn, of_unmade}
use Rattle.arb_draw.proofs.drawing.draw.Goals as goal

pub returns-in_err-text-clause-refused : goal.returns-in_err-text-clause-refused
returns-in_err-text-clause-refused g c =
    let chose = chose_of c.args.choice.now (g.R.Source.remaining c.args.reader.now) c.in_ok-script.script c.in_ok-orders.orders _ _ _ _ _ _ _ c.map_err.ensures.cases c.map_err.ensures.variant c.in_ok-script.was c.read_script.ensures.accepted c.map_err-2.ensures.cases c.map_err-2.ensures.variant c.in_ok-orders.was c.len.ensures c.chosen.ensures.chosen in
    let unmade = of_unmade c.args.topology.now _ _ _ _ c.in_err-text.field-0.0 chose ((c.in_err-text.ensures {u = tt}).fault) in
    let p = err_from_is_err_and c.from_residual-in_err-text.result c.from_residual-in_err-text.ensures.1 in
    rw (p.1, p.2) unmade

pub returns-in-Ok-clause-written : goal.returns-in-Ok-clause-written
returns-in-Ok-clause-written g c =
    let chose = chose_of c.args.choice.now (g.R.Source.remaining c.args.reader.now) c.in_ok-script.script c.in_ok-orders.orders _ _ _ _ _ _ _ c.map_err.ensures.cases c.map_err.ensures.variant c.in_ok-script.was c.read_script.ensures.accepted c.map_err-2.ensures.cases c.map_err-2.ensures.variant c.in_ok-orders.was c.len.ensures c.chosen.ensures.chosen in
    let made = c.in_ok-text.ensures {u = tt} in
    of_drawn c.args.topology.now _ _ _ _ c.as_bytes.result.now (Appends (g.W.Sink.contents c.args.writer.now) (g.W.Sink.contents c.write_all.new.writer)) chose made.few
    (c.as_bytes.ensures.value ∙ (c.as_str.ensures.value ∙ made.picture))
    (c.in-Ok.ensures {u = tt}).written

pub returns-clause-write : goal.returns-clause-write
returns-clause-write g c = λ _. (c.in-Err.ensures {u = tt}).err

pub returns-clause-prefix : goal.returns-clause-prefix
returns-clause-prefix g c = λ _.
    let chose = chose_of c.args.choice.now (g.R.Source.remaining c.args.reader.now) c.in_ok-script.script c.in_ok-orders.orders _ _ _ _ _ _ _ c.map_err.ensures.cases c.map_err.ensures.variant c.in_ok-script.was c.read_script.ensures.accepted c.map_err-2.ensures.cases c.map_err-2.ensures.variant c.in_ok-orders.was c.len.ensures c.chosen.ensures.chosen in
    let made = c.in_ok-text.ensures {u = tt} in
    of_drawn c.args.topology.now _ _ _ _ c.as_bytes.result.now (AppendsPrefix (g.W.Sink.contents c.args.writer.now) (g.W.Sink.contents c.write_all.new.writer)) chose made.few
    (c.as_bytes.ensures.value ∙ (c.as_str.ensures.value ∙ made.picture))
    (c.in-Err.ensures {u = tt}).prefix

-- (with this and `write`, a body that tells a failed write as success is refused at once)
pub returns-in-Ok-clause-write_else : goal.returns-in-Ok-clause-write_else
returns-in-Ok-clause-write_else g c = inr (c.in-Ok.ensures {u = tt}).ok
