use Rattle.arb_seats.proofs.Words.{Cores, ◌≡◌, ℕ, ◌≤◌, Bool, false, length, arith, holder_at, is_asked, get_or_past, set_size, IsSetOf}
use Rattle.arb_seats.proofs.MovingLaws.{MovedFirst-end, MovedFirst-more, MovedFirst-start, next_turn}
use Rattle.arb_seats.proofs.PositionSetsLaws.{AreFrom-all, AreFrom-next, AreFrom-step, taken_smaller}
use Rattle.arb_seats.proofs.seats.Seating.move_overdue.Goals as goal

-- past the last core none is asked back
none_past : (cores : Cores) (p : ℕ) → length cores ≤ p → is_asked (holder_at cores p) ≡ false
none_past cores p after = grind (arith, get_or_past)

pub loop-next-init : goal.loop-next-init
loop-next-init c =
    let cores = c.args.self.now.seats.cores in
    let asked : ℕ → Bool = λ p. is_asked (holder_at cores p) in
    let few : length cores ≤ set_size = rw (← c.self.view_is) c.asked_of_any-rest.ensures.few in
    let set : IsSetOf c.asked_of_any-rest.result (length cores) asked = rw (← c.self.view_is) c.asked_of_any-rest.ensures.set in
    let found = c.first_position-next in
    let next = AreFrom-next asked (length cores) few (none_past cores) 0 c.asked_of_any-rest.result found.result (AreFrom-all asked (length cores) few (none_past cores) c.asked_of_any-rest.result set) found.ensures in
    record { so_far = next_turn found.result (omega arith) MovedFirst-start next.0; first = found.ensures; left = next.1 }

pub loop-next-smaller : goal.loop-next-smaller
loop-next-smaller c =
    rw c.in-Some.is (taken_smaller _ _ _ _ (rw c.in-Some.is at c.loop-next.invariant.first) c.without_first-rest.ensures c.first_position-next-in-Some.ensures)

pub loop-next-preserved : goal.loop-next-preserved
loop-next-preserved c =
    let cores = c.args.self.now.seats.cores in
    let asked : ℕ → Bool = λ p. is_asked (holder_at cores p) in
    let few : length cores ≤ set_size = rw (← c.self.view_is) c.asked_of_any-rest.ensures.few in
    let i = c.loop-next.invariant in
    let found = c.first_position-next-in-Some in
    let next = AreFrom-step asked (length cores) few (none_past cores) c.in-Some.position c.loop-next.rest c.without_first-rest.result found.result
    (rw c.in-Some.is at i.first) (rw c.in-Some.is at i.left) c.without_first-rest.ensures found.ensures in
    let up = rw c.in-Some.is at i.so_far in
    let more = MovedFirst-more up.0 up.1 c.move_if_overdue-count.ensures.moved c.move_if_overdue-count.ensures.count in
    record { so_far = next_turn found.result (omega (arith, up.0)) more next.0; first = found.ensures; left = next.1 }

pub returns : goal.returns
returns c =
    let is : c.grace-grace.result ≡ c.args.self.now.machine.grace = grind arith in
    let end = rw is at (MovedFirst-end (rw c.in_default.is at c.loop-next.invariant.so_far)) in
    record { moved = end.0; count = end.1 }
