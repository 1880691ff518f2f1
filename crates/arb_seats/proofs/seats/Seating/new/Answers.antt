use Rattle.arb_seats.proofs.Words.{length, replicate, false, cores_of, all_threads}
use Rattle.arb_seats.proofs.ShownLaws.{floor, shows_nobody}
use Rattle.arb_seats.proofs.seats.Seating.new.Goals as goal

pub invariant_of-result : goal.invariant_of-result
invariant_of-result c = rw (c.new.ensures, c.new-2.ensures, c.new-3.ensures) (shows_nobody (length (cores_of c.args.topology.now)))

pub returns : goal.returns
returns c = λ j. floor (c.new.ensures j) (c.new-2.ensures j) (replicate all_threads false) (c.new-3.ensures j)
