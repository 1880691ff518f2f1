use Rattle.std.proofs.Common.{sym, arith}
use Rattle.std.proofs.lemmas.List.{append-nil}
use Rattle.arb_config.specs.Limits.{highest_core}
use Rattle.arb_config.specs.Tree.{number_within}
use Rattle.arb_config.proofs.TreeViews.{filter_map-more}
use Rattle.arb_config.proofs.tree.cores_at.Goals as goal
use Rattle.arb_config.proofs.tree.cores_at.Goals.{in-Some+in_ok-push, in_default}

pub loop-value-preserved : goal.loop-value-preserved
loop-value-preserved c =
    let values = c.elements_under-value-items.result.now in
    let i = c.loop-value.value-index in
    let step = filter_map-more (number_within 0 highest_core) values i c.value-item.result (omega arith) c.value-item.is in
    elim c.match-core_number.branch [
      | in-Some+in_ok-push w ↦ rw (w.cores-is, w.in_ok-push.ensures.items, step, ← c.core_number.ensures, w.in-Some.is, c.loop-value.invariant)
      | in_default w ↦ rw (w.cores-is, step, ← c.core_number.ensures, w.in_default.is, c.loop-value.invariant) (sym (append-nil _))
    ]
