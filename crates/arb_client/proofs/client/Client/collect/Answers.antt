-- (what an edit makes wrong has an answer, so that it is refused at once)
use Rattle.std.specs.Prelude.{IfErr, IfOk}
use Rattle.std.proofs.Common.{subst}
use Rattle.arb_client.specs.Collecting.{Collects, Misses}
use Rattle.arb_client.specs.Sides.{Side}
use Rattle.arb_client.proofs.client.Client.collect.Goals as goal

pub returns-clause-reply : goal.returns-clause-reply
returns-clause-reply g c = subst (λ (s : Side). IfOk c.take_answer.result (λ reply. Collects g.K.Set.machine s c.take_answer.new.self reply)) c.self.view_is c.take_answer.ensures.reply

pub returns-clause-missed : goal.returns-clause-missed
returns-clause-missed g c = subst (λ (s : Side). IfErr c.take_answer.result (λ fault. Misses g.K.Set.machine s c.take_answer.new.self fault)) c.self.view_is c.take_answer.ensures.missed
