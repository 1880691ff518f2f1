use Rattle.std.proofs.Common.{arith}
use Rattle.std.proofs.Common.{◌<◌, rules, slice_index}
use Rattle.std.specs.Prelude.{◌^◌}
use Rattle.arb_seats.specs.CoreSets.{set_size}
use Rattle.arb_seats.proofs.PositionSetsLaws.{set-count}
use Rattle.arb_seats.proofs.app_sets.AppSets.count.Goals as goal

pub returns : goal.returns
returns c =
    λ n passes few s.
    let fits : slice_index c.self.inside.sets c.args.app < 2 ^ set_size = search rules in
    grind (arith, set-count (slice_index c.self.inside.sets c.args.app) n passes fits few)
