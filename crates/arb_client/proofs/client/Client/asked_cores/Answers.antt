use Rattle.std.proofs.Common.{length, rules}
use Rattle.arb_client.proofs.SideLaws.{full_on, stand_on}
use Rattle.arb_client.proofs.client.Client.asked_cores.Goals as goal

pub invariant_of-self : goal.invariant_of-self
invariant_of-self g c =
    let i = c.self.invariant in
    (i.0, i.1, i.2, i.3, i.4, c.read.ensures.legal, stand_on c.self.inside.id c.self.inside.mine.items c.self.inside.reader.seen c.read.new.self.seen c.read.ensures.later i.6, i.7, i.8, i.9, i.10, (λ full. full_on g.K.Set.machine c.self.inside.reader.seen c.read.new.self.seen c.self.inside.id (length c.self.inside.mine.items) i.10 c.read.ensures.legal c.read.ensures.later (i.11 full)))

pub returns-clause-thread : goal.returns-clause-thread
returns-clause-thread g c = search rules
