use Rattle.arb_seats.proofs.Words.{sym, ◌∙◌}
use Rattle.arb_seats.proofs.AskingLaws.{asked_app-ask, asked_count-ask}
use Rattle.arb_seats.proofs.seats.Seating.ask_next.Goals as goal

pub returns-in-Some-holder-clause-one_more : goal.returns-in-Some-holder-clause-one_more
returns-in-Some-holder-clause-one_more c =
    let next = c.in-Some.ensures {u = tt} in
    rw (c.mark.ensures, ← c.self.view_is) (asked_count-ask _ _ _ _ c.args.clock (sym c.holder.ensures ∙ c.in-Some-holder.is) next.is_own next.is_left)

pub returns-in-Some-holder-clause-leads_on : goal.returns-in-Some-holder-clause-leads_on
returns-in-Some-holder-clause-leads_on c =
    rw (c.mark.ensures, ← c.self.view_is) (λ due fewer. asked_app-ask _ _ due c.args.clock _ _ _ (sym c.holder.ensures ∙ c.in-Some-holder.is) fewer (c.in-Some.ensures {u = tt}))
