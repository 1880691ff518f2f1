use Rattle.arb_seats.proofs.Words.{◌≡◌, take, arith, take_all}
use Rattle.arb_seats.proofs.SlotsLaws.{are_threads, once_known, threads_twice}
use Rattle.arb_seats.proofs.waiting.make_room.Goals as goal

pub renumber-requires-clause-threads : goal.renumber-requires-clause-threads
renumber-requires-clause-threads c = rw c.close_gaps-len.ensures.kept (are_threads c.args.slots.now)

pub renumber-requires-clause-once : goal.renumber-requires-clause-once
renumber-requires-clause-once c =
    let whole : take c.args.len c.args.slots.now ≡ c.args.slots.now = take_all c.args.len c.args.slots.now (omega arith) in
    rw c.close_gaps-len.ensures.kept (once_known c.args.slots.now c.args.slot_of.now (rw whole at c.requires.known))

pub returns-clause-same : goal.returns-clause-same
returns-clause-same c = grind (arith, take_all, threads_twice)
