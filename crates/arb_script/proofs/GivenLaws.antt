-- Orders beside the clients who give them.
use Rattle.std.proofs.Common.{◌≡◌, ℕ, ◌<◌, zero, suc, List, [], ◌∷◌, ◌++◌, Some, length, get_or, refl, ap, arith}
use Rattle.std.specs.Prelude.{option_map, slice_get}
use Rattle.arb_model.specs.declared.orders.Order.{Order}
use Rattle.arb_script.specs.declared.given.ClientOrder.{ClientOrder}
use Rattle.arb_script.specs.Given.{orders_by}

-- as many as there are of each
pub length-orders_by : (clients : List ℕ) (orders : List Order) → length clients ≡ length orders → length (orders_by clients orders) ≡ length orders
length-orders_by [] orders same = same
length-orders_by (client ∷ clients) [] same = absurd (omega (arith, same))
length-orders_by (client ∷ clients) (order ∷ orders) same = ap suc (length-orders_by clients orders (omega (arith, same)))

-- one more of each
pub orders_by-append : (clients : List ℕ) (orders : List Order) (client : ℕ) (order : Order) → length clients ≡ length orders
    → orders_by (clients ++ client ∷ []) (orders ++ order ∷ []) ≡ orders_by clients orders ++ record { client = client; order = order } ∷ []
orders_by-append [] [] client order same = refl
orders_by-append [] (other ∷ orders) client order same = absurd (omega (arith, same))
orders_by-append (other ∷ clients) [] client order same = absurd (omega (arith, same))
orders_by-append (first ∷ clients) (other ∷ orders) client order same =
    ap (λ (gs : List ClientOrder). record { client = first; order = other } ∷ gs) (orders_by-append clients orders client order (omega (arith, same)))

-- the index of an order is one of a client
pub index_within : (clients : List ℕ) (orders : List Order) (index count : ℕ) → length clients ≡ length orders → length (orders_by clients orders) ≡ count → index < count → index < length clients
index_within clients orders index count same all inside = omega (arith, same, all, inside, length-orders_by clients orders same)

-- who gives the order at an index, and the order
pub client_by : (clients : List ℕ) (orders : List Order) (index d : ℕ) → length clients ≡ length orders → index < length clients → option_map (λ given. given.client) (slice_get (orders_by clients orders) index) ≡ Some (get_or clients index d)
client_by [] orders index d same inside = absurd (omega (arith, inside))
client_by (client ∷ clients) [] index d same inside = absurd (omega (arith, same))
client_by (client ∷ clients) (order ∷ orders) zero d same inside = refl
client_by (client ∷ clients) (order ∷ orders) (suc index) d same inside = client_by clients orders index d (omega (arith, same)) (omega (arith, inside))

pub order_by : (clients : List ℕ) (orders : List Order) (index : ℕ) (d : Order) → length clients ≡ length orders → index < length clients → option_map (λ given. given.order) (slice_get (orders_by clients orders) index) ≡ Some (get_or orders index d)
order_by [] orders index d same inside = absurd (omega (arith, inside))
order_by (client ∷ clients) [] index d same inside = absurd (omega (arith, same))
order_by (client ∷ clients) (order ∷ orders) zero d same inside = refl
order_by (client ∷ clients) (order ∷ orders) (suc index) d same inside = order_by clients orders index d (omega (arith, same)) (omega (arith, inside))
