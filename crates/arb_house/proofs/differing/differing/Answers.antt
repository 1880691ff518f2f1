use Rattle.std.proofs.Common.{◌≡◌, ◌<◌, ◌≤◌, ◌∙◌, true, length, get_or, arith}
use Rattle.std.proofs.lemmas.List.{length-set}
use Rattle.arb_model.specs.Limits.{clients}
use Rattle.arb_house.specs.Pasts.{recalled}
use Rattle.arb_house.proofs.FollowLaws.{marked_short, marked_long}
use Rattle.arb_house.proofs.differing.differing.Goals as goal
use Rattle.arb_house.proofs.differing.differing.Goals.{then-followed-number, else-followed-number}

pub loop-number-preserved : goal.loop-number-preserved
loop-number-preserved c =
    let journal = c.args.journal.now in
    let pasts = c.args.survey.now.pasts.now in
    let followed = c.follow.result.followed in
    let strayed = c.follow.result.strayed in
    let marks = c.loop-number.marks in
    let number = c.loop-number.number in
    let inv = c.loop-number.invariant in
    let within : number < clients = c.loop-number-test.true in
    let room : number < length marks = omega (arith, within, inv.0) in
    let mine : c.recalled.result.now ≡ recalled number pasts = c.recalled.ensures in
    elim c.if-followed-number.branch [
      | then-followed-number w ↦
          let less : get_or followed number 0 < length (recalled number pasts) = rw mine at w.if-followed-number.true in
          rw w.marks-is (length-set marks number true ∙ inv.0, marked_short journal pasts followed strayed marks number room within c.follow.ensures less inv.1)
      | else-followed-number w ↦
          let most : length (recalled number pasts) ≤ get_or followed number 0 = rw mine at w.if-followed-number.false in
          rw w.marks-is (inv.0, marked_long journal pasts followed strayed marks number within c.follow.ensures most inv.1)
    ]
