-- Where the orders of each client stand in a script.
use Rattle.std.specs.Prelude.{ℕ, ◌≡◌, ◌≢◌, ◌+◌, ◌<◌, ◌≤◌, List, Some, length, slice_get, slice_index}
use Rattle.arb_model.specs.Limits.{clients}
use Rattle.arb_script.specs.declared.given.ClientOrder.{ClientOrder}
use Rattle.arb_play.specs.declared.own_orders.OwnOrders.{OwnOrders}

-- of the orders from an index on, the client's first one stands at index n; where there is none, n is the script's end
pub record IsNextOwn (script : List ClientOrder) (client from n : ℕ) : Type 0 where
  pub behind : from ≤ n
  pub within : n ≤ length script
  pub own : (given : ClientOrder) → slice_get script n ≡ Some given → given.client ≡ client
  pub none_before : (k : ℕ) (given : ClientOrder) → from ≤ k → k < n → slice_get script k ≡ Some given → given.client ≢ client

-- the index has each client's first order, and behind each order the next one of its client
pub record IsIndexOf (script : List ClientOrder) (own : OwnOrders) : Type 0 where
  pub first : (client : ℕ) → client < clients → IsNextOwn script client 0 (slice_index own.first client)
  pub size : length own.next.items ≡ length script
  pub next : (k : ℕ) (given : ClientOrder) → slice_get script k ≡ Some given → IsNextOwn script given.client (k + 1) (slice_index own.next.items k)
