use Rattle.arb_seats.proofs.Words.{ℕ, ap, ◌∙◌, nat_lt, not, ◌&&◌, ◌==◌, slice_index, applications, get_or-same}
use Rattle.arb_seats.proofs.NeedsLaws.{first_in_need}
use Rattle.arb_seats.proofs.seats.rebalancing.first_in_need.Goals as goal

pub returns : goal.returns
returns c =
    first_in_need c.args.needs.now c.differing.result c.told-needs
    (λ app. c.differing.ensures app ∙ ap (λ (other : ℕ). nat_lt app applications && not (slice_index c.args.needs.now app == other)) (get_or-same applications app 0))
    c.first_place.result c.first_place.ensures
