use Rattle.std.proofs.Common.{◌≡◌, arith, ◌∙◌, ap, set, subst}
use Rattle.std.specs.Prelude.{option_map}
use Rattle.std.proofs.lemmas.List.{get_or-set_same}
use Rattle.arb_share.specs.Demands.{AreDemands}
use Rattle.arb_model.specs.Standing.{cut_at, requests_standing}
use Rattle.arb_core.proofs.RequestsLaws.{standing-set}
use Rattle.arb_core.proofs.requests.Requests.set.Goals as goal

pub invariant_of-self : goal.invariant_of-self
invariant_of-self c =
    let i = c.self.inside in
    let here : c.stands-standing.result ≡ option_map (cut_at c.args.cap) c.args.request = c.stands-standing.ensures ∙ ap (option_map (cut_at c.args.cap)) (get_or-set_same i.full c.args.app c.args.request _ (omega (arith, c.requires))) in
    let new = (λ j. set (requests_standing i.full i.caps) c.args.app (here j)) ∙ standing-set i.full i.caps c.args.app c.args.request c.args.cap (omega arith) (omega (arith, c.requires)) in
    subst (AreDemands c.set.new.self) new (c.set.ensures (requests_standing i.full i.caps) c.self.invariant)
