-- What the journal and the pasts say of one client.
use Rattle.std.specs.Prelude.{◌≡◌, ◌≢◌, ℕ, ◌<◌, ◌==◌, List, [], ◌∷◌, length, map, filter}
use Rattle.std.specs.List.{Contains}
use Rattle.arb_model.specs.declared.orders.Entry.{Entry}
use Rattle.arb_model.specs.declared.orders.Order.{Order}
use Rattle.arb_model.specs.declared.orders.Reply.{Reply}
use Rattle.arb_desk.specs.declared.past.Past.{Past}

-- orders, each with its reply
abbrev pub AnsweredOrders : Type 0
AnsweredOrders = List (Order × Reply)

-- the orders and replies of a client's entries, in their order
abbrev pub entries_of_client : ℕ → List Entry → AnsweredOrders
entries_of_client c journal = map (λ e. (e.order, e.reply)) (filter (λ e. e.client == c) journal)

-- the pasts of a client
abbrev pub pasts_of : ℕ → List Past → List Past
pasts_of c pasts = filter (λ past. past.client == c) pasts

-- the list of the first past, the empty list where there is none
abbrev pub first_list : List Past → AnsweredOrders
first_list [] = []
first_list (past ∷ pasts) = past.mine.items

-- what a client recalls: its past's list, the empty list where it left no past
abbrev pub recalled : ℕ → List Past → AnsweredOrders
recalled c pasts = first_list (pasts_of c pasts)

-- a client of the house left no past
abbrev pub IsMissing : (house : List ℕ) → List Past → ℕ → Type 0
IsMissing house pasts c = Contains house c × (pasts_of c pasts ≡ [])

-- a client left more than one past
abbrev pub IsTwice : List Past → ℕ → Type 0
IsTwice pasts c = 1 < length (pasts_of c pasts)

-- a client's entries aren't what it recalls
abbrev pub Differs : List Entry → List Past → ℕ → Type 0
Differs journal pasts c = entries_of_client c journal ≢ recalled c pasts
