-- The clients of a script, the orders of one of them in it and in a journal, and which orders of a script are full.
use Rattle.std.specs.Prelude.{ℕ, ◌≡◌, ◌≢◌, ◌+◌, ◌<◌, ◌==◌, nat_le, not, if◌then◌else◌, List, [], ◌∷◌, ◌++◌, filter, take}
use Rattle.arb_config.specs.Machine.{Machine}
use Rattle.arb_model.specs.declared.orders.Entry.{Entry}
use Rattle.arb_model.specs.declared.orders.Order.{Order}
use Rattle.arb_model.specs.History.{History, IsLegal, IsSettled, entries_of, orders_in}
use Rattle.arb_model.specs.Limits.{clients}
use Rattle.arb_script.specs.declared.given.ClientOrder.{ClientOrder}

-- the clients that a script names, each once, in the order of their first orders
abbrev pub clients_in : (script : List ClientOrder) → List ℕ
clients_in [] = []
clients_in (given ∷ script) = given.client ∷ filter (λ client. not (client == given.client)) (clients_in script)

-- a client's orders in a script, in their order
abbrev pub ordered : (client : ℕ) → (script : List ClientOrder) → List Order
ordered client [] = []
ordered client (given ∷ script) = if given.client == client then given.order ∷ ordered client script else ordered client script

-- a client's orders in a journal, in their order
abbrev pub entered : (client : ℕ) → (journal : List Entry) → List Order
entered client [] = []
entered client (e ∷ journal) = if e.client == client then e.order ∷ entered client journal else entered client journal

-- the orders at or past the index from which on those of their client are full, in their order; the first order stands at index n
abbrev pub full_in : (full_from : ℕ → ℕ) → (n : ℕ) → (script : List ClientOrder) → List ClientOrder
full_in full_from n [] = []
full_in full_from n (given ∷ script) = if nat_le (full_from given.client) n then given ∷ full_in full_from (n + 1) script else full_in full_from (n + 1) script

-- each client has an index of the script: its entries are its orders before it, and the full orders are those at or past the index of their client
abbrev pub Splits : (script : List ClientOrder) → (journal : List Entry) → (full : List ClientOrder) → Type 0
Splits script journal full =
    (full_from : ℕ → ℕ) × (full ≡ full_in full_from 0 script)
    × ((client : ℕ) → client < clients → entered client journal ≡ ordered client (take (full_from client) script))

-- a client's entries are the first of its orders, and its other orders are full
abbrev pub Shares : (script : List ClientOrder) → (journal : List Entry) → (full : List ClientOrder) → Type 0
Shares script journal full = (client : ℕ) → client < clients → ordered client script ≡ entered client journal ++ ordered client full

-- a legal history with no word stale at its end, and the orders of the script that it doesn't have; there are such only where it has as many orders as the limit
pub record ComesOf (m : Machine) (script : List ClientOrder) (h : History) (full : List ClientOrder) : Type 0 where
  pub legal : IsLegal m h
  pub settled : IsSettled m h
  pub shares : Shares script (entries_of h) full
  pub splits : Splits script (entries_of h) full
  pub limit : full ≢ [] → orders_in h ≡ m.orders
