use Rattle.arb_seats.proofs.Words.{rules, need_of, applications}
use Rattle.std.proofs.lemmas.List.FromFn.{fill_by_all}
use Rattle.arb_seats.proofs.seats.Seating.needs.Goals as goal

pub returns : goal.returns
returns c = fill_by_all (need_of c.args.self.now.seats c.args.due.now) c.loop-app.needs applications 0 c.loop-app.invariant.0 (search rules)
