use Rattle.std.proofs.Common.{◌≡◌, ◌∙◌, ◌++◌, refl, sym, subst}
use Rattle.arb_play.specs.JournalReport.{full_at, full_lines}
use Rattle.arb_script.specs.Output.{Sends}
use Rattle.arb_play.proofs.FullLaws.{none_at, one_at}
use Rattle.arb_play.proofs.LinesLaws.{no_line}
use Rattle.arb_play.proofs.player.write_if_full.Goals as goal

pub returns-then-index-full_from : goal.returns-then-index-full_from
returns-then-index-full_from g c =
    let written = g.W.Sink.contents c.args.writer.now in
    let out = c.args.output.now in
    let full_from = c.args.full_from.now in
    let before = rw c.index.ensures.value at c.if-index-full_from.true in
    record {
      moved = rw (none_at full_from c.args.script.now c.args.index _ c.client-client.ensures before) (no_line written out);
      prefix = tt;
      ok = refl;
      err = tt;
    }

pub returns : goal.returns
returns g c =
    let full_from = c.args.full_from.now in
    let past = rw c.index.ensures.value at c.if-index-full_from.false in
    let line : c.full_line.result ≡ full_lines (full_at full_from c.args.script.now c.args.index) =
    c.full_line.ensures ∙ sym (one_at full_from c.args.script.now c.args.index _ _ c.client-client.ensures c.order.ensures past) in
    subst (λ l. Sends g.W.Sink.contents g.W.Sink.failures c.args.writer.now c.put.new.writer c.put.result (c.args.output.now ++ l) c.put.new.self) line c.put.ensures
