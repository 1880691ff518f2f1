-- A request that is accepted has no entry above the limit.
use Rattle.std.proofs.Common.{rules, refl}
use Rattle.arb_c.proofs.EntryLaws.{none_above}
use Rattle.arb_c.proofs.wire.order_of.Goals as goal

pub returns-in-Ok : goal.returns-in-Ok
returns-in-Ok c = search (rules, none_above c.args.order.now.request (c.in-Ok.ensures.accepted.0 refl))
