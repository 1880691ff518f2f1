use Rattle.arb_seats.proofs.Words.{◌≡◌, ◌≤◌, ◌∙◌, suc, arith, ap, sym, nat_tests, socket_by_position, applications}
use Rattle.arb_seats.proofs.AskingLaws.{AreUneven, asked_apps, cores_after_asks-apps, left_after, turns_to, with_cores}
use Rattle.arb_seats.proofs.ShownLaws.{are_threads_shown}
use Rattle.arb_seats.proofs.seats.Seating.ask_back.Goals as goal

pub loop-next-init : goal.loop-next-init
loop-next-init c =
    let sockets = socket_by_position c.args.self.now.machine in
    let cores = c.args.self.now.seats.cores in
    let left : AreUneven sockets c.args.due.now c.args.clock cores 0 c.uneven-uneven.result = λ p low. grind (arith, nat_tests, c.uneven-uneven.ensures p) in
    let to = turns_to sockets c.args.due.now c.args.clock cores 0 c.uneven-uneven.result c.first_place-next.result (omega arith) left c.first_place-next.ensures in
    record { turns = ap (with_cores c.args.self.now) (sym to.0); left = to.1; first = c.first_place-next.ensures }

pub loop-next-preserved : goal.loop-next-preserved
loop-next-preserved c =
    let sockets = socket_by_position c.args.self.now.machine in
    let due = c.args.due.now in
    let cores = c.args.self.now.seats.cores in
    let i = c.loop-next.invariant in
    let app = c.in-Some.app in
    let left : AreUneven sockets due c.args.clock cores app c.loop-next.uneven = rw c.in-Some.is at i.left in
    let after = left_after sockets due c.args.clock cores app c.loop-next.uneven c.put-uneven.result left c.put-uneven.ensures in
    let first = rw c.in-Some.is at i.first in
    let within : suc app ≤ applications = grind (arith, nat_tests, left app first.0, first.1.0) in
    let before : c.loop-next.self ≡ with_cores c.args.self.now (asked_apps sockets due c.args.clock cores app) = rw c.in-Some.is at i.turns in
    let asked : c.ask_app.new.self ≡ with_cores c.args.self.now (asked_apps sockets due c.args.clock cores (suc app)) = rw before at c.ask_app.ensures in
    let to = turns_to sockets due c.args.clock cores (suc app) c.put-uneven.result c.first_place-next-in-Some.result within after c.first_place-next-in-Some.ensures in
    record { turns = asked ∙ ap (with_cores c.args.self.now) (sym to.0); left = to.1; first = c.first_place-next-in-Some.ensures }

pub returns : goal.returns
returns c = grind (arith, cores_after_asks-apps, are_threads_shown)
