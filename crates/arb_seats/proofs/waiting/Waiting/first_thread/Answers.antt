use Rattle.arb_seats.proofs.Words.{arith, length-take}
use Rattle.arb_seats.proofs.QueueLaws.{first_is}
use Rattle.arb_seats.proofs.waiting.Waiting.first_thread.Goals as goal

pub bounds-self-inside-first_slot : goal.bounds-self-inside-first_slot
bounds-self-inside-first_slot c =
    let w = c.self.inside in
    let f = first_is w.slots w.len c.self.invariant.1 (omega arith) c.args.app c.first_slot.result c.self.invariant.0 c.requires.is_application
    (rw c.self.view_is c.requires.some) (c.first_slot.ensures.all, c.first_slot.ensures.one) in
    omega (arith, length-take w.len w.slots)

pub returns : goal.returns
returns c =
    let w = c.self.inside in
    let f = first_is w.slots w.len c.self.invariant.1 (omega arith) c.args.app c.first_slot.result c.self.invariant.0 c.requires.is_application
    (rw c.self.view_is c.requires.some) (c.first_slot.ensures.all, c.first_slot.ensures.one) in
    rw (← c.self.view_is) (record { value = f.value; others = f.others; is_thread = f.small; present = f.present })
