use Rattle.std.proofs.Common.{◌<◌, length, arith, rules, sym, ◌∙◌}
use Rattle.arb_share.proofs.StreamLaws.{Writes-failed}
use Rattle.arb_config.specs.Machine.{cores_of}
use Rattle.arb_script.proofs.TableLaws.{lines_appended, table_prefix}
use Rattle.arb_script.proofs.table.print_table.Goals as goal

pub returns-in_err-write_line : goal.returns-in_err-write_line
returns-in_err-write_line g c =
    let m = c.args.topology.now in
    let within : c.loop-position.position < length (cores_of m) = omega (arith, c.managed-position-end.ensures.count) in
    let failed = c.in_err-write_line.ensures {u = tt} in
    Writes-failed c.from_residual.result c.from_residual.ensures.0
    (table_prefix _ _ _ m c.args.core.now.standing.seats c.loop-position.position c.core_line.result within c.loop-position.invariant.appended c.core_line.ensures failed.prefix)
    (λ same. failed.err (same ∙ sym c.loop-position.invariant.kept))

pub loop-position-preserved : goal.loop-position-preserved
loop-position-preserved g c =
    record {
      appended = lines_appended _ _ _ c.args.topology.now c.args.core.now.standing.seats c.loop-position.position c.core_line.result c.loop-position.invariant.appended c.core_line.ensures (c.in_ok-write_line.ensures {u = tt}).written;
      kept = search rules;
    }
