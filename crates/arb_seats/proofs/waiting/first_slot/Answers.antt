use Rattle.arb_seats.proofs.Words.{◌*◌, ◌/◌, slot_count, threads}
use Rattle.arb_seats.proofs.RunsLaws.{of_four}
use Rattle.arb_seats.proofs.waiting.first_slot.Goals as goal

pub returns : goal.returns
returns c =
    rw (c.min-3.ensures, c.min.ensures, c.min-2.ensures)
    (of_four _ slot_count (c.args.app * threads) (threads / 4) _ _ _ _ c.first_of_run-first.ensures c.first_of_run-second.ensures c.first_of_run-third.ensures c.first_of_run-last.ensures)
