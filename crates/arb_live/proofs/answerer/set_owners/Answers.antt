use Rattle.std.proofs.Common.{◌∙◌, arith}
use Rattle.arb_script.proofs.TableLaws.{lines_more}
use Rattle.arb_live.proofs.answerer.set_owners.Goals as goal

pub loop-position-preserved : goal.loop-position-preserved
loop-position-preserved c =
    let m = c.args.topology.now in
    let s = c.args.core.now.standing.seats in
    let i = c.loop-position.invariant in
    record {
      lines = c.push_str.ensures.bytes ∙ grind (arith, i.lines, c.as_str.ensures.text, c.set_core.ensures, lines_more m s c.loop-position.position);
      short = omega (arith, c.push_str.ensures.len, c.as_str.ensures.fits, i.short);
    }
