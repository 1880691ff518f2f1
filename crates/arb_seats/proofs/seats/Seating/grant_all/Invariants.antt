use Rattle.arb_seats.proofs.Words.{◌-◌, slice_index}
use Rattle.arb_seats.proofs.ShownLaws.{IsGranting}
use Rattle.arb_seats.proofs.seats.Seating.grant_all.Given as goal

abbrev pub invariant-apps : goal.invariant-apps
invariant-apps l = IsGranting l.fn.self l.self l.due l.grants l.app (slice_index l.grants l.app)

abbrev pub invariant-times : goal.invariant-times
invariant-times l = IsGranting l.fn.self l.self l.due l.grants l.app (slice_index l.grants l.app - l._time)
