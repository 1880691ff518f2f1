use Rattle.std.proofs.Common.{sym, ◌∙◌, subst, eq-eqb}
use Rattle.std.proofs.lemmas.Bool.{eqb-true}
use Rattle.arb_house.specs.Clients.{HaveClosed}
use Rattle.arb_house.proofs.ClientLaws.{none_counted}
use Rattle.arb_house.proofs.clients.Roster.all_closed.Goals as goal

pub returns : goal.returns
returns c =
    let i = c.self.invariant in
    let counted = none_counted c.self.inside.list.items c.self.inside.closed.items i.1 in (
      (λ none. subst HaveClosed c.self.view_is (counted.0 (sym i.2 ∙ eqb-true c.self.inside.unclosed 0 none))),
      λ have. eq-eqb c.self.inside.unclosed 0 (i.2 ∙ counted.1 (subst HaveClosed (sym c.self.view_is) have)),
    )
