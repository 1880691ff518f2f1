use Rattle.std.proofs.Common.{rules}
use Rattle.arb_house.specs.OwnPasts.{IsOwnPast}
use Rattle.arb_play.proofs.JoinLaws.{all_pushed}
use Rattle.arb_play.proofs.joining.gather.Goals as goal

pub returns-clause-own : goal.returns-clause-own
returns-clause-own g c = λ queue all past.
    rw c.push-2.ensures.items (all_pushed (IsOwnPast g.K.Set.table g.K.Set.machine queue) c.args.joined.now.pasts.items c.args.walk.past c.push-2.result all past)

-- (so a body that looks at the last thread alone is refused at once)
pub returns-clause-stopped : goal.returns-clause-stopped
returns-clause-stopped g c = search rules
