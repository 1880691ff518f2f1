use Rattle.std.proofs.Common.{◌≡◌, ◌-◌, ◌≤◌, [], Some, length}
use Rattle.std.specs.Prelude.{IfSome, slice_get, unwrap_or}
use Rattle.arb_script.specs.declared.given.ClientOrder.{ClientOrder}
use Rattle.arb_play.specs.GivingUp.{IsAsked, MayBeGivenUp}
use Rattle.arb_play.specs.Walking.{OwnLetThrough, Sound}
use Rattle.arb_play.proofs.walking.take_orders.Given as goal

abbrev pub invariant-loop-index : goal.invariant-loop-index
invariant-loop-index g l =
    (l.client.out ≡ []) × (l.client.id ≡ l.fn.client.id) × (l.client.queue ≡ l.fn.client.queue)
    × OwnLetThrough (g.G.Gate.may_let_through l.gate) l.script l.client.id (unwrap_or l.account.gave_up l.index)
    × IfSome l.account.gave_up (MayBeGivenUp (g.G.Gate.may_give_up l.gate) l.script)
    × Sound l.script l.index l.client.id l.client.mine l.account
    × OwnLetThrough (IsAsked (g.G.Gate.may_give_up l.gate) (g.G.Gate.may_let_through l.gate)) l.script l.client.id l.index
    × (l.index ≤ length l.script)
    × ((given : ClientOrder) → slice_get l.script l.index ≡ Some given → given.client ≡ l.client.id)

abbrev pub decreases-loop-index : goal.decreases-loop-index
decreases-loop-index g l = length l.script - l.index
