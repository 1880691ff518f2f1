use Rattle.std.proofs.Common.{◌++◌, [], refl, sym, ◌∙◌, append_assoc}
use Rattle.arb_share.proofs.StreamLaws.{Writes-failed}
use Rattle.arb_script.specs.Table.{table_text}
use Rattle.arb_play.specs.Outcomes.{full_orders}
use Rattle.arb_play.specs.JournalReport.{entry_lines, full_lines}
use Rattle.arb_play.proofs.JournalLaws.{pieces, reports}
use Rattle.arb_script.proofs.OutputLaws.{Moves-next, Moves-none, Moves-prefix, Writes-next}
use Rattle.arb_play.proofs.player.write_journal_report.Goals as goal

pub returns-in_err-write_entries : goal.returns-in_err-write_entries
returns-in_err-write_entries g c =
    let o = c.args.outcome.now in
    let whole = pieces _ _ o c.requires c.new-output.result c.as_slice.result.now c.new-output.ensures c.as_slice.ensures.value in
    let failed = c.in_err-write_entries.ensures {u = tt} in (
      _,
      reports _ _ o c.requires,
      Writes-failed c.from_residual.result c.from_residual.ensures.0
          (Moves-prefix _ _ _ [] [] _ _ _ (whole ∙ append_assoc (c.new-output.result ++ entry_lines c.as_slice.result.now) (full_lines (full_orders o.full_from c.args.script.now)) (table_text c.args.topology.now o.core.standing.seats)) (Moves-none _ []) failed.prefix)
          failed.err,
    )

pub returns-in_err-write_full : goal.returns-in_err-write_full
returns-in_err-write_full g c =
    let o = c.args.outcome.now in
    let whole = pieces _ _ o c.requires c.new-output.result c.as_slice.result.now c.new-output.ensures c.as_slice.ensures.value in
    let entries = c.in_ok-write_entries.ensures {u = tt} in
    let failed = c.in_err-write_full.ensures {u = tt} in (
      _,
      reports _ _ o c.requires,
      Writes-failed c.from_residual-in_err-write_full.result c.from_residual-in_err-write_full.ensures.0
          (Moves-prefix _ _ _ (c.new-output.result ++ entry_lines c.as_slice.result.now) c.write_entries.new.output (full_lines (full_orders o.full_from c.args.script.now)) (table_text c.args.topology.now o.core.standing.seats) _ whole entries.moved failed.prefix)
          (λ same. failed.err (same ∙ sym entries.ok)),
    )

pub returns : goal.returns
returns g c =
    let o = c.args.outcome.now in
    let whole = pieces _ _ o c.requires c.new-output.result c.as_slice.result.now c.new-output.ensures c.as_slice.ensures.value in
    let entries = c.in_ok-write_entries.ensures {u = tt} in
    let full = c.in_ok-write_full.ensures {u = tt} in (
      _,
      reports _ _ o c.requires,
      Writes-next c.write_table.result _ _ (table_text c.args.topology.now o.core.standing.seats) whole (Moves-next _ _ _ (c.new-output.result ++ entry_lines c.as_slice.result.now) c.write_entries.new.output (full_lines (full_orders o.full_from c.args.script.now)) _ _ refl entries.moved full.moved) (full.ok ∙ entries.ok) c.write_table.ensures,
    )
