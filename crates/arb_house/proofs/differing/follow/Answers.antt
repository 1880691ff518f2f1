use Rattle.std.proofs.Common.{◌≡◌, ◌≢◌, ℕ, ◌+◌, ◌<◌, ◌∙◌, Some, true, false, length, get_or, arith}
use Rattle.std.specs.Prelude.{slice_get}
use Rattle.std.proofs.lemmas.Bool.{both_ways}
use Rattle.std.proofs.lemmas.List.{length-replicate, length-set}
use Rattle.std.proofs.lemmas.Option.{slice_get_within}
use Rattle.arb_model.specs.Limits.{clients}
use Rattle.arb_house.specs.Pasts.{recalled}
use Rattle.arb_house.proofs.FollowLaws.{answer, follows_none, follows_next, follows_stray}
use Rattle.arb_house.proofs.differing.follow.Goals as goal
use Rattle.arb_house.proofs.differing.follow.Goals.{then-is_at, else-is_at}

pub loop-entry-init : goal.loop-entry-init
loop-entry-init c = (length-replicate {A = ℕ} 513 0, length-replicate 513 false, follows_none c.args.survey.now.pasts.now)

pub overflow_add-followed : goal.overflow_add-followed
overflow_add-followed c =
    let got = c.is_at.ensures.0 c.if-is_at.true in
    let inside = slice_get_within c.recalled.result.now (get_or c.loop-entry.followed c.index-number.result 0) (answer c.entry-item.result) got in
    omega (arith, inside, c.recalled.type_inv.0)

pub loop-entry-preserved : goal.loop-entry-preserved
loop-entry-preserved c =
    let i = c.loop-entry.entry-index in
    let e = c.entry-item.result in
    let pasts = c.args.survey.now.pasts.now in
    let journal = c.args.journal.now in
    let followed = c.loop-entry.followed in
    let strayed = c.loop-entry.strayed in
    let inv = c.loop-entry.invariant in
    let number : c.index-number.result ≡ e.client = c.index-number.ensures.value in
    let within : e.client < clients = omega (arith, number, c.index-number.ensures.within) in
    let mine : c.recalled.result.now ≡ recalled c.index-number.result pasts = c.recalled.ensures in
    elim c.if-is_at.branch [
      | then-is_at w ↦
          let got : slice_get (recalled e.client pasts) (get_or followed e.client 0) ≡ Some (answer e) = cc (c.is_at.ensures.0 w.if-is_at.true, mine, number) in
          let room : e.client < length followed = omega (arith, within, inv.0) in
          rw (w.followed-is, w.strayed-is, number) (
            length-set followed e.client (get_or followed e.client 0 + 1) ∙ inv.0,
            inv.1,
            follows_next journal pasts followed strayed i e c.loop-entry-test.true c.entry-item.is room within got inv.2,
          )
      | else-is_at w ↦
          let other : slice_get (recalled e.client pasts) (get_or followed e.client 0) ≢ Some (answer e) = λ q. both_ways c.is_at.result w.if-is_at.false (c.is_at.ensures.1 (cc (q, mine, number))) in
          let room : e.client < length strayed = omega (arith, within, inv.1) in
          rw (w.followed-is, w.strayed-is, number) (
            inv.0,
            length-set strayed e.client true ∙ inv.1,
            follows_stray journal pasts followed strayed i e c.loop-entry-test.true c.entry-item.is room within other inv.2,
          )
    ]
