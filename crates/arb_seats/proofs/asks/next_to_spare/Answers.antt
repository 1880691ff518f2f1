use Rattle.arb_seats.proofs.Words.{◌≡◌, ℕ, ◌≤◌, Bool, false, ◌&&◌, length, arith, holder_at, is_asked, is_of, get_or_past}
use Rattle.arb_seats.proofs.AskingLaws.{spare_on}
use Rattle.arb_seats.proofs.PositionSetsLaws.{AreFrom-step, taken_smaller}
use Rattle.arb_seats.proofs.asks.next_to_spare.Goals as goal

pub loop-at-smaller : goal.loop-at-smaller
loop-at-smaller c =
    rw c.in-Some.is (taken_smaller _ _ _ _ (rw c.in-Some.is at c.loop-at.invariant.first) c.without_first-rest.ensures c.first_position-at-in-Some.ensures)

pub loop-at-preserved : goal.loop-at-preserved
loop-at-preserved c =
    let cores = c.args.cores.now.cores in
    let asked : ℕ → Bool = λ p. is_of c.args.app (holder_at cores p) && is_asked (holder_at cores p) in
    let past : (p : ℕ) → length cores ≤ p → asked p ≡ false = λ p after. grind (arith, get_or_past) in
    let i = c.loop-at.invariant in
    let next = AreFrom-step asked (length cores) c.asked_of-rest.ensures.few past c.in-Some.position c.loop-at.rest c.without_first-rest.result c.first_position-at-in-Some.result
    (rw c.in-Some.is at i.first) (rw c.in-Some.is at i.left) c.without_first-rest.ensures c.first_position-at-in-Some.ensures in
    let up = rw c.in-Some.is at i.so_far in
    let on = spare_on cores c.args.app c.in-Some.position c.better_to_spare-next.result c.first_position-at-in-Some.result up.0 c.better_to_spare-next.ensures next.0 in
    record { so_far = on.0; asked = on.1; first = c.first_position-at-in-Some.ensures; left = next.1 }
