use Rattle.arb_seats.proofs.Words.{◌≡◌, arith, ap, ShownSeats}
use Rattle.arb_seats.proofs.AskingLaws.{AskingLeft-end}
use Rattle.arb_seats.proofs.seats.Seating.ask_app.Goals as goal

pub loop-asked-2-preserved : goal.loop-asked-2-preserved
loop-asked-2-preserved c =
    let left = c.loop-asked-2.invariant.left in
    let told = c.spare_next.ensures in
    let same : c.loop-asked-2.self.machine ≡ c.args.self.now.machine = ap (λ (f : ShownSeats). f.machine) left.rest in
    let leads = rw same at (told.leads_on c.args.due c.args.clock (omega (arith, left.over_due, left.asked_so_far, c.loop-asked-2-test.true))) in
    record {
      left = grind arith;
      enough = omega (arith, c.loop-asked-2-test.true);
    }

pub returns : goal.returns
returns c = AskingLeft-end c.loop-asked-2.invariant.left (omega (arith, c.loop-asked-2.invariant.enough, c.loop-asked-2-test.false))
