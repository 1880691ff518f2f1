use Rattle.std.proofs.Common.{◌≡◌, ◌<◌, ◌++◌, [], sym, ap, ◌∙◌, arith, length, append_assoc, append-nil}
use Rattle.arb_config.specs.Machine.{cores_of}
use Rattle.arb_script.specs.Table.{table_text}
use Rattle.arb_script.proofs.TableLaws.{lines_before, lines_behind, table_parts}
use Rattle.arb_script.proofs.OutputLaws.{Moves-next, Moves-prefix, Writes-next}
use Rattle.arb_share.proofs.StreamLaws.{Writes-failed}
use Rattle.arb_script.proofs.runner.write_table.Goals as goal

pub returns-in_err-put : goal.returns-in_err-put
returns-in_err-put g c =
    let m = c.args.topology.now in
    let s = c.args.core.now.standing.seats in
    let out = c.args.output.now in
    let position = c.loop-position.position in
    let i = c.loop-position.invariant in
    let within : position < length (cores_of m) = omega (arith, c.managed-position-end.ensures.count) in
    let parts = table_parts m s position within in
    let whole : out ++ table_text m s ≡ ((out ++ lines_before m s position) ++ c.core_line.result) ++ parts.0 = grind (arith, append_assoc, parts.1, c.core_line.ensures) in
    let failed = c.in_err-put.ensures {u = tt} in
    Writes-failed c.from_residual.result c.from_residual.ensures.0 (Moves-prefix _ _ _ _ _ _ parts.0 _ whole i.moved failed.prefix) (λ same. failed.err (same ∙ sym i.kept))

pub loop-position-preserved : goal.loop-position-preserved
loop-position-preserved g c =
    let i = c.loop-position.invariant in
    let sent = c.in_ok-put.ensures {u = tt} in
    record {
      moved = Moves-next _ _ _ _ _ _ _ _ (lines_behind c.args.output.now c.core_line.result c.args.topology.now c.args.core.now.standing.seats c.loop-position.position c.core_line.ensures) i.moved sent.moved;
      kept = sent.ok ∙ i.kept;
    }

pub returns : goal.returns
returns g c =
    let m = c.args.topology.now in
    let s = c.args.core.now.standing.seats in
    let out = c.args.output.now in
    let i = c.loop-position.invariant in
    let at_end : length (cores_of m) ≡ c.loop-position.position = omega (arith, c.managed-position-end.ensures.count) in
    let whole : out ++ table_text m s ≡ (out ++ lines_before m s c.loop-position.position) ++ [] = ap (λ n. out ++ lines_before m s n) at_end ∙ sym (append-nil _) in
    Writes-next c.write.result _ _ [] whole i.moved i.kept (rw (append-nil c.loop-position.output) c.write.ensures.written)
