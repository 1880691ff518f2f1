use Rattle.std.proofs.Common.{◌≡◌, length, subst, true, rules}
use Rattle.arb_desk.specs.Answers.{IsFullPast}
use Rattle.arb_client.specs.Sides.{Side, StandIn}
use Rattle.arb_client.proofs.client.Client.mine.Goals as goal

pub returns-clause-stand : goal.returns-clause-stand
returns-clause-stand g c = subst (λ (s : Side). StandIn s.id s.mine s.seen) c.self.view_is c.self.invariant.6

pub returns-clause-full : goal.returns-clause-full
returns-clause-full g c = subst (λ (s : Side). s.full ≡ true → IsFullPast g.K.Set.machine s.seen s.id (length s.mine)) c.self.view_is c.self.invariant.11

pub returns-clause-is : goal.returns-clause-is
returns-clause-is g c = search rules
