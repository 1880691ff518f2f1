use Rattle.std.proofs.Common.{◌≡◌, List, ℕ, sym, ap, ◌∙◌, subst}
use Rattle.std.specs.List.{Contains}
use Rattle.arb_house.specs.Serving.{Remains}
use Rattle.arb_house.proofs.ClientLaws.{listed}
use Rattle.arb_house.proofs.ended.Served.serves.Goals as goal

pub returns : goal.returns
returns g c =
    let list : c.as_slice.result.now ≡ c.args.self.now.clients = c.as_slice.ensures.value ∙ ap (λ (r : Remains). r.clients) c.self.view_is in
    let has = listed c.as_slice.result.now c.args.client in
    let value = c.contains.ensures.value in (
      (λ yes. subst (λ (l : List ℕ). Contains l c.args.client) list (has.0 (sym value ∙ yes))),
      λ there. value ∙ has.1 (subst (λ (l : List ℕ). Contains l c.args.client) (sym list) there),
    )
