use Rattle.std.proofs.Common.{refl}
use Rattle.arb_script.proofs.LineLaws.{given_at}
use Rattle.arb_script.proofs.usual.usual_line.Goals as goal

pub returns-clause-line : goal.returns-clause-line
returns-clause-line c =
    given_at c.args.text.now _ c.in_ok-client.client c.in_ok-order.order c.in_ok-client.first c.in_ok-order.rest refl (c.in_ok-client.ensures {u = tt}).client (c.in_ok-order.ensures {u = tt}).order c.if-used-gt-MAX_LINE.false
