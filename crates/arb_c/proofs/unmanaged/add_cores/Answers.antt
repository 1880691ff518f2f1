use Rattle.std.proofs.Common.{arith, append_assoc}
use Rattle.std.proofs.lemmas.Grind.{common_steps}
use Rattle.std.proofs.lemmas.List.{append-nil}
use Rattle.arb_config.specs.Limits.{highest_core}
use Rattle.arb_config.specs.Tree.{number_within}
use Rattle.arb_config.proofs.TreeViews.{filter_map-more}
use Rattle.arb_c.proofs.unmanaged.add_cores.Goals as goal
use Rattle.arb_c.proofs.unmanaged.add_cores.Goals.{in-Some+in_ok-push, in_default}

pub loop-listed-preserved : goal.loop-listed-preserved
loop-listed-preserved c =
    let values = c.elements_under-listed-items.result.now in
    let step = filter_map-more (number_within 0 highest_core) values c.loop-listed.listed-index c.listed-item.result (omega arith) c.listed-item.is in
    elim c.match-core_number.branch [
      | in-Some+in_ok-push w ↦ rw (w.cores-is, w.in_ok-push.ensures.items, step, ← c.core_number.ensures, w.in-Some.is, c.loop-listed.invariant) (grind (arith, common_steps, append_assoc))
      | in_default w ↦ rw (w.cores-is, step, ← c.core_number.ensures, w.in_default.is, append-nil) c.loop-listed.invariant
    ]

pub returns : goal.returns
returns c = grind (arith, common_steps, append-nil)
