use Rattle.std.proofs.Common.{sym, ◌≡◌, true, get_or}
use Rattle.std.specs.Char.{is_ascii_digit}
use Rattle.arb_script.proofs.UsualLaws.{ReadsDigits-next}
use Rattle.arb_script.proofs.usual.usual_moment.Goals as goal

pub loop-index-preserved : goal.loop-index-preserved
loop-index-preserved c =
    let digit : is_ascii_digit (get_or c.args.text.now c.loop-index.index 0) ≡ true = sym ((c.if-not-is_ascii_digit.ensures {u = tt}).value) in
    rw c.from.ensures (ReadsDigits-next c.args.text.now c.loop-index.index c.loop-index.value c.loop-index.invariant c.loop-index-test.true digit)
