use Rattle.std.proofs.Common.{◌∙◌, arith, ap}
use Rattle.arb_c.specs.Calls.{reply_of, stepped_one}
use Rattle.arb_c.specs.Holding.{Holding}
use Rattle.arb_c.proofs.RenewalLaws.{same_limit, same_reply}
use Rattle.arb_c.proofs.opened.Opened.step.Goals as goal

pub enter-requires-clause-limit : goal.enter-requires-clause-limit
enter-requires-clause-limit c =
    omega (arith, c.requires.room, c.make_room.ensures.same, ap (λ (h : Holding). h.limit) c.make_room.ensures.made, same_limit c.args.self.now)

pub returns-clause-reply : goal.returns-clause-reply
returns-clause-reply c =
    c.enter.ensures.reply ∙ ap (λ (h : Holding). reply_of h.arbiter c.args.client c.args.order.now) c.make_room.ensures.made ∙ same_reply c.args.self.now c.args.client c.args.order.now

pub returns-clause-step : goal.returns-clause-step
returns-clause-step c =
    c.enter.ensures.step ∙ ap (λ (h : Holding). stepped_one h c.args.client c.args.order.now) c.make_room.ensures.made
