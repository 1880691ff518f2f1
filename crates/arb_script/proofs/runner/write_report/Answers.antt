use Rattle.std.proofs.Common.{◌≡◌, ◌++◌, [], refl, ap}
use Rattle.arb_script.specs.Table.{table_text}
use Rattle.arb_share.proofs.StreamLaws.{Writes-failed}
use Rattle.arb_script.specs.Report.{order_lines, report, standing_after}
use Rattle.arb_script.proofs.OutputLaws.{Moves-none, Moves-prefix, Writes-next}
use Rattle.arb_script.proofs.runner.write_report.Goals as goal

pub returns-in_err-write_orders : goal.returns-in_err-write_orders
returns-in_err-write_orders g c =
    let m = c.args.topology.now in
    let script = c.args.script.now in
    let made : c.new-core.result.machine ≡ m = ap (λ a. a.machine) c.new-core.ensures.opening in
    let table = table_text m (standing_after m script).seats in
    let whole : report m script ≡ ([] ++ (c.new-output.result ++ order_lines c.new-core.result.machine script)) ++ table = rw (c.new-output.ensures, made) refl in
    let failed = c.in_err-write_orders.ensures {u = tt} in
    Writes-failed c.from_residual.result c.from_residual.ensures.0 (Moves-prefix _ _ _ [] [] _ table _ whole (Moves-none _ []) failed.sent.prefix) failed.sent.err

pub returns : goal.returns
returns g c =
    let m = c.args.topology.now in
    let script = c.args.script.now in
    let made : c.new-core.result.machine ≡ m = ap (λ a. a.machine) c.new-core.ensures.opening in
    let table = table_text m c.write_orders.new.core.standing.seats in
    let sent = c.in_ok-write_orders.ensures {u = tt} in
    let whole : report m script ≡ (c.new-output.result ++ order_lines c.new-core.result.machine script) ++ table = rw (sent.standing, c.new-output.ensures, made) refl in
    Writes-next c.write_table.result _ _ table whole sent.sent.moved sent.sent.ok c.write_table.ensures
