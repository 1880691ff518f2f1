use Rattle.std.proofs.Common.{length, ap, rules}
use Rattle.arb_house.specs.Clients.{Roll}
use Rattle.arb_house.proofs.OpeningLaws.{none_marked}
use Rattle.arb_house.proofs.opening.open_all.Goals as goal

pub new-requires-4-clause-closed : goal.new-requires-4-clause-closed
new-requires-4-clause-closed g c = none_marked _ (length c.args.clients.now) _ (ap (λ (r : Roll). r.closed) c.in_ok-named.ensures)

pub returns-clause-clients : goal.returns-clause-clients
returns-clause-clients g c = search rules
