use Rattle.std.proofs.Common.{◌<◌, rules}
use Rattle.std.specs.Prelude.{sum}
use Rattle.arb_house.proofs.AdmissionLaws.{full_at, room_at}
use Rattle.arb_house.proofs.publisher.Publisher.is_full.Goals as goal

pub returns-clause-full : goal.returns-clause-full
returns-clause-full g c = λ full.
    let i = c.self.invariant in
    rw (← c.self.view_is) (full_at _ _ _ i.2 i.0 (c.is_full.ensures.0 full))

pub returns-clause-room : goal.returns-clause-room
returns-clause-room g c = λ room.
    let i = c.self.invariant in
    let below : sum c.self.inside.core.standing.counts < c.self.inside.core.machine.orders = search (room, rules) in
    rw (← c.self.view_is) (room_at _ _ _ i.2 i.0 below)
