use Rattle.std.proofs.Common.{ap, ◌∙◌}
use Rattle.arb_model.specs.Standing.{holder_at}
use Rattle.arb_seats.specs.CoreTable.{CoreTable}
use Rattle.arb_seats.specs.ShownSeats.{ShownSeats}
use Rattle.arb_core.proofs.CoreLaws.{arbiter_holder}
use Rattle.arb_core.proofs.arbiter.Core.owner.Goals as goal

pub of_thread-requires : goal.of_thread-requires
of_thread-requires c =
    let a = c.self.inside.state in
    let position = c.in_ok-position.position in
    arbiter_holder a.machine a.standing a.posted position c.holder.result c.in_ok-holder.holder c.self.invariant
    (c.holder.ensures ∙ ap (λ (t : CoreTable). holder_at t.cores position) c.cores-cores.ensures ∙ ap (λ (f : ShownSeats). holder_at f.seats.cores position) c.seats.ensures)
    c.in_ok-holder.was
