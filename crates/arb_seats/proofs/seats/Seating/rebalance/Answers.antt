use Rattle.arb_seats.proofs.Words.{ap, ◌∙◌, socket_by_position, ShownSeats, after_grants}
use Rattle.arb_seats.proofs.ShownLaws.{seated}
use Rattle.arb_seats.proofs.seats.Seating.rebalance.Goals as goal

pub returns : goal.returns
returns c =
    c.grant_all.ensures ∙ ap (λ (f : ShownSeats). seated f (after_grants (socket_by_position f.machine) c.args.due.now f.seats)) c.ask_back.ensures
