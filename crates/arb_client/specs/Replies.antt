-- What a reply says.
use Rattle.std.specs.Prelude.{ℕ, ◌≡◌, ◌≤◌, Some, length, slice_get}
use mathlib.Core.List.{IsPrefix}
use Rattle.arb_config.specs.Machine.{Machine}
use Rattle.arb_model.specs.declared.orders.Order.{Order}
use Rattle.arb_model.specs.declared.orders.Reply.{Reply}
use Rattle.arb_model.specs.History.{History, IsSettled, entries_of}
use Rattle.arb_client.specs.Sides.{Side, own_entry}

-- a reply to an order, past so many orders: at a point of what is seen now no word was stale, and there the order stood with its reply, as the client's next entry
pub record StandsFor (m : Machine) (a b : Side) (order : Order) (reply : Reply) (before : ℕ) : Type 0 where
  pub point : History
  pub place : ℕ
  pub seen : IsPrefix point b.seen
  pub settled : IsSettled m point
  pub stands : slice_get (entries_of point) place ≡ Some (own_entry a.id (length a.mine) order reply)
  pub past : before ≤ place
