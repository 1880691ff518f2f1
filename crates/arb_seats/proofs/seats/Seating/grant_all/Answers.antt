use Rattle.arb_seats.proofs.Words.{refl, ◌≡◌, ◌-◌, length, slice_index, arith, sym, ◌∙◌, ap, socket_by_position, granted, free_count, applications}
use Rattle.arb_model.proofs.GrantsLaws.{after_grants-none, GrantsLeft-end, GrantsLeft-more, GrantsLeft-start, GrantsLeft-step}
use Rattle.arb_seats.proofs.ShownLaws.{seated}
use Rattle.arb_seats.proofs.SingleGrantLaws.{after_grants-nobody, after_grants-one, need_waits}
use Rattle.arb_seats.proofs.seats.Seating.grant_all.Goals as goal

pub apps-init : goal.apps-init
apps-init c =
    let free : c.free_count-free.result ≡ free_count c.args.self.now.seats.cores = rw (← c.self.view_is) c.free_count-free.ensures.count in
    record { left = GrantsLeft-start _ c.args.due.now _ _ (rw (c.needs-needs.ensures, free) at c.even-grants.ensures) (grind arith); rest = refl }

pub times-preserved : goal.times-preserved
times-preserved c =
    let more : c.grant-in-times.new.self.seats ≡ granted (socket_by_position c.args.self.now.machine) c.apps.app c.times.self.seats = grind arith in
    record { left = rw more (GrantsLeft-more _ _ _ _ _ _ _ c.times-test.true c.times.invariant.left); rest = grind arith }

pub apps-preserved : goal.apps-preserved
apps-preserved c =
    let done : slice_index c.even-grants.result c.apps.app - c.times._time ≡ 0 = omega (arith, c.times-test.false) in
    record { left = GrantsLeft-step _ _ c.even-grants.result _ _ (rw done at c.times.invariant.left); rest = c.times.invariant.rest }

pub returns : goal.returns
returns c =
    let long : length c.even-grants.result ≡ applications = c.even-grants.ensures.one_each ∙ ap length c.needs-needs.ensures in
    c.apps.invariant.rest ∙ ap (seated c.args.self.now) (GrantsLeft-end _ _ c.even-grants.result _ _ (omega arith) c.apps.invariant.left)

pub returns-in_default : goal.returns-in_default
returns-in_default c =
    ap (seated c.args.self.now) (sym (after_grants-nobody _ c.args.due.now _ (rw c.needs-needs.ensures at (c.in_default.ensures {u = tt}))))

pub returns-then-free-eq1 : goal.returns-then-free-eq1
returns-then-free-eq1 c =
    let first = c.in-Some.ensures {u = tt} in
    let one : free_count c.args.self.now.seats.cores ≡ 1 = rw (← c.self.view_is) (omega (arith, c.free_count-free.ensures.count, c.if-free-eq1.true)) in
    c.grant.ensures
    ∙ ap (seated c.args.self.now) (sym (after_grants-one _ c.args.due.now _ c.in-Some.first one first.0 (rw c.needs-needs.ensures at first.1.0) (rw c.needs-needs.ensures at first.1.1)))

pub grant-requires-clause-some_waiting : goal.grant-requires-clause-some_waiting
grant-requires-clause-some_waiting c =
    let first = c.in-Some.ensures {u = tt} in
    need_waits c.args.self.now.seats c.args.due.now c.in-Some.first first.0 (rw c.needs-needs.ensures at first.1.0)

pub returns-then-not-has_free : goal.returns-then-not-has_free
returns-then-not-has_free c =
    let none : free_count c.args.self.now.seats.cores ≡ 0 = rw (← c.self.view_is) (grind (arith, c.has_free.ensures, c.if-not-has_free.true)) in
    ap (seated c.args.self.now) (sym (after_grants-none _ c.args.due.now _ none))
