-- As many posts follow as at the start; each post is a step, and makes the stale words one fewer.
use Rattle.std.specs.Prelude.{◌≡◌, ◌+◌, length}
use Rattle.arb_model.specs.History.{IsLegal, settled_from}
use Rattle.arb_common.specs.Giving.{stale_after}
use Rattle.arb_common.specs.Views.{HasLock}
use Rattle.arb_common.proofs.giving.post_all.Given as goal

abbrev pub invariant-loop-w : goal.invariant-loop-w
invariant-loop-w l = record {
  table : l.seat.table_id ≡ l.initial.seat.table_id;
  lock : HasLock l.common.table.shared.key l.seat.me.0.seen l.seat.me;
  mine : l.seat.me.0.own.mine ≡ l.initial.seat.me.0.own.mine;
  busy : l.seat.me.0.own.busy ≡ l.initial.seat.me.0.own.busy;
  steps : l.seat.me.0.own.steps + length l.initial.seat.me.0.seen ≡ l.initial.seat.me.0.own.steps + length l.seat.me.0.seen;
  legal : IsLegal l.common.table.shared.key l.seat.me.0.seen;
  settles : settled_from l.common.table.shared.key l.seat.me.0.seen ≡ settled_from l.common.table.shared.key l.initial.seat.me.0.seen;
}

abbrev pub decreases-loop-w : goal.decreases-loop-w
decreases-loop-w l = stale_after l.common.table.shared.key l.seat.me.0.seen
