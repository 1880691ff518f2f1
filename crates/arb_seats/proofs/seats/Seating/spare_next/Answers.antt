use Rattle.arb_seats.proofs.Words.{sym, ◌∙◌}
use Rattle.arb_seats.proofs.AskingLaws.{asked_app-spare, asked_count-spare, some_asked}
use Rattle.arb_seats.proofs.seats.Seating.spare_next.Goals as goal

pub returns-in-Some-holder-clause-one_fewer : goal.returns-in-Some-holder-clause-one_fewer
returns-in-Some-holder-clause-one_fewer c =
    let next = c.in-Some.ensures {u = tt} in
    rw (c.mark.ensures, ← c.self.view_is) (asked_count-spare _ _ _ _ (sym c.holder.ensures ∙ c.in-Some-holder.is) next.is_own next.is_back)

pub returns-in-Some-holder-clause-leads_on : goal.returns-in-Some-holder-clause-leads_on
returns-in-Some-holder-clause-leads_on c =
    rw (c.mark.ensures, ← c.self.view_is) (λ due clock more. asked_app-spare _ _ due clock _ _ _ (sym c.holder.ensures ∙ c.in-Some-holder.is) more (c.in-Some.ensures {u = tt}))

pub returns-in_default-clause-one_fewer : goal.returns-in_default-clause-one_fewer
returns-in_default-clause-one_fewer c = absurd (some_asked _ _ (rw (← c.self.view_is) at c.requires.some_asked) (c.in_default.ensures {u = tt}))
