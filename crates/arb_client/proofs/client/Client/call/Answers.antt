use Rattle.std.proofs.Common.{arith}
use Rattle.std.proofs.lemmas.Grind.{common_steps}
use Rattle.arb_client.specs.Posting.{Posts}
use Rattle.arb_client.proofs.CallLaws.{collects_none}
use Rattle.arb_client.proofs.client.Client.call.Goals as goal

pub returns-in-Err-collect-clause-failed : goal.returns-in-Err-collect-clause-failed
returns-in-Err-collect-clause-failed g c = collects_none g.K.Set.machine c.args.self.now c.post_at_last.new.self c.collect.new.self c.args.order c.in-Err-collect.fault c.requires c.in-Ok.ensures.posted c.in-Err-collect.ensures.missed

pub returns-in-Err-clause-failed : goal.returns-in-Err-clause-failed
returns-in-Err-clause-failed g c = (c.in-Err.ensures.never_busy, c.in-Err.ensures.refused, c.in-Err.ensures.unposted)

pub returns-in-Ok-collect-clause-reply : goal.returns-in-Ok-collect-clause-reply
returns-in-Ok-collect-clause-reply g c =
    let posted : Posts c.args.self.now c.post_at_last.new.self c.args.order = c.in-Ok.ensures.posted in
    grind (arith, common_steps)
