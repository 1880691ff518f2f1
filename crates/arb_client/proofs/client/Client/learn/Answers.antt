use Rattle.std.proofs.Common.{length, rules}
use Rattle.arb_client.proofs.SideLaws.{full_on, stand_on}
use Rattle.arb_client.proofs.client.Client.learn.Goals as goal

pub returns-clause-told : goal.returns-clause-told
returns-clause-told g c = search rules

pub returns-clause-two_loads : goal.returns-clause-two_loads
returns-clause-two_loads g c = search rules

pub invariant_of-self : goal.invariant_of-self
invariant_of-self g c =
    let i = c.self.invariant in
    (i.0, i.1, i.2, i.3, i.4, c.learn.ensures.legal, stand_on c.self.inside.id c.self.inside.mine.items c.self.inside.reader.seen c.learn.new.self.seen c.learn.ensures.later i.6, i.7, i.8, i.9, i.10, (λ full. full_on g.K.Set.machine c.self.inside.reader.seen c.learn.new.self.seen c.self.inside.id (length c.self.inside.mine.items) i.10 c.learn.ensures.legal c.learn.ensures.later (i.11 full)))
