use Rattle.arb_script.proofs.LineLaws.{client_at, clock_first}
use Rattle.arb_script.proofs.usual.usual_client.Goals as goal

pub returns-in-Some-clause-client : goal.returns-in-Some-clause-client
returns-in-Some-clause-client c = rw c.clock.ensures (client_at _ _ _ (clock_first c.args.text.now c.in-Some.after.now c.in-Some.ensures))
