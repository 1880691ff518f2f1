use Rattle.arb_seats.proofs.Words.{arith, length-take}
use Rattle.arb_seats.proofs.QueueLaws.{slot_there, counts_some, queue_left, threads_after}
use Rattle.arb_seats.proofs.waiting.Waiting.remove.Goals as goal

pub bounds-self-inside-slot : goal.bounds-self-inside-slot
bounds-self-inside-slot c =
    let w = c.self.inside in
    omega (arith, (slot_there c.self.invariant.1 c.args.thread (rw c.self.view_is c.requires.present)).0, length-take w.len w.slots)

pub overflow_sub-self : goal.overflow_sub-self
overflow_sub-self c = counts_some c.self.invariant.1 c.args.thread c.requires.is_thread (rw c.self.view_is c.requires.present)

pub invariant_of-self : goal.invariant_of-self
invariant_of-self c =
    let w = c.self.inside in (
      c.self.invariant.0,
      queue_left w.slots w.len c.self.invariant.1 (omega arith) c.args.thread c.requires.is_thread (rw c.self.view_is c.requires.present) c.self.told.1
          c.self.told.2,
    )

pub returns : goal.returns
returns c =
    let w = c.self.inside in
    rw (← c.self.view_is) (threads_after w.slots w.len c.self.invariant.1 (omega arith) c.args.thread c.requires.is_thread
    (rw c.self.view_is c.requires.present))
