-- What holds of one client's thread.
use Rattle.std.specs.Prelude.{ℕ, ◌≡◌, ◌<◌, false, None, Some, MatchOption, IfSome, List, length, map, slice_get, take, unwrap_or}
use Rattle.arb_model.specs.declared.orders.Order.{Order}
use Rattle.arb_model.specs.declared.orders.Reply.{Reply}
use Rattle.arb_script.specs.declared.given.ClientOrder.{ClientOrder}
use Rattle.arb_play.specs.declared.walking.Account.{Account}
use Rattle.arb_play.specs.declared.walking.Walk.{Walk}
use Rattle.arb_play.specs.GivingUp.{MayBeGivenUp}
use Rattle.arb_play.specs.Scripts.{ordered}

-- the order of an answered order
abbrev pub order_in : Order × Reply → Order
order_in answered = answered.0

-- the answered orders are the client's orders of the script before an index
abbrev pub Answered : (script : List ClientOrder) → (client : ℕ) → (mine : List (Order × Reply)) → (index : ℕ) → Type 0
Answered script client mine index = map order_in mine ≡ ordered client (take index script)

-- of the first n orders of the script all of the client's were answered, or those before the first full one
abbrev pub Sound : (script : List ClientOrder) → (n client : ℕ) → (mine : List (Order × Reply)) → Account → Type 0
Sound script n client mine account = account.gave_up ≡ None → account.lost ≡ false → MatchOption account.full_from (Answered script client mine n) (Answered script client mine)

-- a client's orders among the first n of a script are such that the gate may let through
abbrev pub OwnLetThrough : (lets : ℕ → Type 0) → (script : List ClientOrder) → (client n : ℕ) → Type 0
OwnLetThrough lets script client n = (order : ℕ) (given : ClientOrder) → order < n → slice_get script order ≡ Some given → given.client ≡ client → lets order

-- what a client's thread leaves
pub record Walked (may lets : ℕ → Type 0) (script : List ClientOrder) (client : ℕ) (walk : Walk) : Type 0 where
  pub given_up : IfSome walk.gave_up (MayBeGivenUp may script)
  pub let_through : walk.stopped ≡ false → OwnLetThrough lets script client (unwrap_or walk.gave_up (length script))
  pub answered : walk.gave_up ≡ None → walk.lost ≡ false → Answered script walk.past.client walk.past.mine.items walk.full_from
