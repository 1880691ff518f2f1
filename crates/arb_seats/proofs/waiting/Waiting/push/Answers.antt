use Rattle.arb_seats.proofs.Words.{◌≡◌, ◌/◌, take, arith, times_waiting, threads_in, threads}
use Rattle.std.proofs.lemmas.List.{take_more_set}
use Rattle.std.proofs.lemmas.List.Elements.{filter-append}
use Rattle.arb_seats.proofs.QueueLaws.{queue_bounds, queue_more}
use Rattle.arb_seats.proofs.waiting.Waiting.push.Goals as goal

pub make_room-self-inside-requires-clause-few : goal.make_room-self-inside-requires-clause-few
make_room-self-inside-requires-clause-few c = omega (arith, (queue_bounds c.self.invariant.1).0)

pub overflow_add-self-2 : goal.overflow_add-self-2
overflow_add-self-2 c = omega (arith, (queue_bounds c.self.invariant.1).1 (c.args.thread / threads) (omega arith))

pub invariant_of-self : goal.invariant_of-self
invariant_of-self c =
    let n = c.make_room-self-inside in
    let e = n.ensures in
    let absent : times_waiting c.args.thread (threads_in (take n.result n.new.slots)) ≡ 0 = grind arith in (
      omega arith,
      queue_more n.new.slots n.result (grind arith) c.args.thread (omega arith) (omega arith) c.self.told.2 c.requires.is_thread absent,
    )

pub returns : goal.returns
returns c = grind (arith, take_more_set, filter-append)
