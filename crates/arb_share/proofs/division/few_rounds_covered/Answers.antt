use Rattle.std.proofs.Common.{◌≡◌, ◌+◌, arith, ap, ◌∙◌, inl, inr}
use Rattle.std.specs.List.{sum}
use Rattle.std.proofs.lemmas.Bool.{cases_lt}
use Rattle.std.proofs.lemmas.Bool.Decides.{nat_tests}
use Rattle.arb_share.proofs.EvenLoop.{capped}
use Rattle.arb_share.proofs.Rounds.{Tried-more, Tried-none, Tried-same}
use Rattle.arb_share.proofs.division.few_rounds_covered.Goals as goal

pub loop-before-init : goal.loop-before-init
loop-before-init c = Tried-none c.args.demands.now c.args.supply

pub loop-before-preserved : goal.loop-before-preserved
loop-before-preserved c =
    let d = c.args.demands.now in
    let before = c.loop-before.before in
    let covered = c.loop-before.covered in
    let wanted : c.wanted-wanted.result ≡ sum (capped d (before + 1)) = c.wanted-wanted.ensures ∙ ap sum c.after_rounds.ensures in
    elim (cases_lt c.args.supply (sum (capped d (before + 1)))) [
      | inl short ↦
          let same : covered + c.from-covered.result ≡ covered = grind (arith, nat_tests, c.from-covered.ensures, c.from.ensures, wanted, short) in
          rw same (Tried-same d c.args.supply before covered c.loop-before.invariant short)
      | inr covers ↦
          let more : covered + c.from-covered.result ≡ covered + 1 = grind (arith, nat_tests, c.from-covered.ensures, c.from.ensures, wanted, covers) in
          rw more (Tried-more d c.args.supply before covered c.loop-before.invariant covers)
    ]
