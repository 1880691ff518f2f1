-- What the steps of a turn say to C.
use Rattle.std.proofs.Common.{◌≡◌, ◌∙◌, ℕ, Bool, true, Option, Some, Ok, ap, subst, sym}
use Rattle.std.specs.Prelude.{Result, if◌then◌else◌, is_some}
use Rattle.arb_config.specs.Machine.{Machine}
use Rattle.arb_model.specs.declared.orders.Event.TheVariants.{Posted}
use Rattle.arb_model.specs.declared.orders.Order.{Order}
use Rattle.arb_model.specs.declared.orders.Reply.{Reply}
use Rattle.arb_model.specs.History.{IsLegal, state_after}
use Rattle.arb_model.specs.Posting.{next_stale_of}
use Rattle.arb_model.proofs.SettlingLaws.{follows_by_state}
use Rattle.arb_common.specs.Giving.{EntersOne, PostsOne}
use Rattle.arb_common.specs.Sides.{Side, Stance}
use Rattle.arb_c.specs.declared.wire.WireReply.{WireReply}
use Rattle.arb_c.specs.Codes.{in_no_turn, ok, settled}
use Rattle.arb_c.specs.MemberHolding.{MemberHolding}
use Rattle.arb_c.specs.Members.{EntersAs, posting_code}
use Rattle.arb_c.specs.Wire.{reply_shown}

-- the word that is posted was the next stale one
pub was_stale : (before after : Side) (w value : ℕ) → PostsOne before w value after → next_stale_of (state_after before.machine before.seen).standing (state_after before.machine before.seen).posted ≡ Some w
was_stale before after w value p = ((follows_by_state before.machine before.seen (Posted w value)).0 p.may).turn

-- so the code of the post says that it was done
pub code_posted : (m : MemberHolding) (after : Side) (w value : ℕ) → true ≡ m.stance.in_turn → PostsOne m.stance.side w value after → ok ≡ posting_code ok settled (Some m)
code_posted m after w value turn p =
    let k = state_after m.stance.side.machine m.stance.side.seen in
    ap (λ (o : Option ℕ). if is_some o then ok else settled) (sym (was_stale m.stance.side after w value p))
    ∙ ap (λ (b : Bool). if b then (if is_some (next_stale_of k.standing k.posted) then ok else settled) else in_no_turn) turn

-- an order that a member in a turn entered, as C is told of it
pub entered_as : (before : MemberHolding) (s after : Stance) (client : ℕ) (named : Result Order ℕ) (order : Order) (reply : Reply) (wire : WireReply) → named ≡ Ok order → s ≡ before.stance → EntersOne s.side client order reply after.side
    → IsLegal after.side.machine after.side.seen → after.in_turn ≡ true → true ≡ before.stance.in_turn → wire ≡ reply_shown reply → EntersAs before client named wire (record { stance = after; described = before.described })
entered_as before s after client named order reply wire is same enters legal turn was shown =
    let e : EntersOne before.stance.side client order reply after.side = subst (λ (x : Stance). EntersOne x.side client order reply after.side) same enters in
    record {
      order = order;
      order_is = is;
      reply = reply;
      enters = e;
      legal = subst (λ (m : Machine). IsLegal m after.side.seen) (ap (λ (x : Side). x.machine) e.after_is) legal;
      reply_is = shown;
      rest = ap (λ (b : Bool). record before { stance = record { side = after.side; in_turn = b } }) (turn ∙ was);
    }
