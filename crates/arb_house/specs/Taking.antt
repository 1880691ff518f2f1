-- The orders of messages and of entries, and what the journal has of those that were taken.
use Rattle.std.specs.Prelude.{ℕ, ◌≡◌, Option, Some, None, List, true, map, take, filter_map}
use Rattle.std.specs.List.{list_all}
use Rattle.arb_model.specs.declared.orders.Entry.{Entry}
use Rattle.arb_model.specs.declared.orders.Order.{Order}
use Rattle.arb_desk.specs.declared.message.Body.{Body}
use Rattle.arb_desk.specs.declared.message.Body.TheVariants.{Put, Close}
use Rattle.arb_desk.specs.declared.message.Message.{Message}
use Rattle.arb_desk.specs.Passes.{has}

-- a client with its order, none where it closes
abbrev pub order_by : ℕ → Body → Option (ℕ × Order)
order_by client (Put order) = Some (client, order)
order_by client Close = None

-- the orders that messages hold with their clients, in their order
abbrev pub orders_taken : List Message → List (ℕ × Order)
orders_taken ms = filter_map (λ m. order_by m.client m.body) ms

-- those of entries
abbrev pub orders_entered : List Entry → List (ℕ × Order)
orders_entered es = map (λ e. (e.client, e.order)) es

-- the journal's orders are all that were taken, or the first ones up to the limit
abbrev pub FollowsTaken : ℕ → List Entry → List Message → Type 0
FollowsTaken limit journal taken = orders_entered journal ≡ take limit (orders_taken taken)

-- each message that was taken is of a listed client
abbrev pub TakenFrom : List ℕ → List Message → Type 0
TakenFrom clients taken = list_all (λ m. has m.client clients) taken ≡ true

-- and so is each entry
abbrev pub EnteredFrom : List ℕ → List Entry → Type 0
EnteredFrom clients journal = list_all (λ e. has e.client clients) journal ≡ true
