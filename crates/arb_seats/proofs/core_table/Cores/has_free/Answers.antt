use Rattle.arb_seats.proofs.Words.{◌≡◌, arith, free_count}
use Rattle.std.specs.Prelude.{count_ones}
use Rattle.std.proofs.lemmas.Nat.{ones_le_self, zero_from_ones}
use Rattle.arb_seats.proofs.CoreTableLaws.{few_cores}
use Rattle.arb_seats.proofs.PositionSetsLaws.{set-count}
use Rattle.arb_seats.proofs.core_table.Cores.has_free.Goals as goal

pub returns : goal.returns
returns c =
    let count : count_ones c.self.inside.free ≡ free_count c.args.self.now.cores =
    rw (← c.self.view_is) (set-count c.self.inside.free _ _ (omega arith) (few_cores c.self.invariant) c.self.invariant.are_free) in
    grind (arith, count, ones_le_self c.self.inside.free, zero_from_ones c.self.inside.free)
