-- Orders beside the clients who give them.
use Rattle.std.specs.Prelude.{ℕ, List, [], ◌∷◌}
use Rattle.arb_model.specs.declared.orders.Order.{Order}
use Rattle.arb_script.specs.declared.given.ClientOrder.{ClientOrder}

-- each order as one of the client at its index
abbrev pub orders_by : (clients : List ℕ) → (orders : List Order) → List ClientOrder
orders_by [] orders = []
orders_by (client ∷ clients) [] = []
orders_by (client ∷ clients) (order ∷ orders) = record { client = client; order = order } ∷ orders_by clients orders
