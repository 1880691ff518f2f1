-- What the walks over the pasts and the journal keep of each client: no public call speaks of it.
use Rattle.std.specs.Prelude.{◌≡◌, ◌≢◌, ◌↔◌, ℕ, ◌<◌, List, [], Option, Some, None, drop, slice_get, slice_index, slice_index_or, ◌++◌, Bool, true, false, MatchBool}
use Rattle.arb_model.specs.Limits.{clients}
use Rattle.arb_model.specs.declared.orders.Entry.{Entry}
use Rattle.arb_desk.specs.declared.past.Past.{Past}
use Rattle.arb_house.specs.Pasts.{AnsweredOrders, entries_of_client, recalled}

-- a client is marked
abbrev pub IsMarked : List Bool → ℕ → Type 0
IsMarked marks c = slice_index_or marks c false ≡ true

-- the clients that have a property are marked, and no other
abbrev pub Marks : (ℕ → Type 0) → List Bool → Type 0
Marks P marks = (c : ℕ) → c < clients → IsMarked marks c ↔ P c

-- the list of a past, the empty list where there is none
abbrev pub list_of : Option Past → AnsweredOrders
list_of None = []
list_of (Some past) = past.mine.items

-- the list of the past at an index
abbrev pub list_at : List Past → Option ℕ → AnsweredOrders
list_at pasts None = []
list_at pasts (Some index) = list_of (slice_get pasts index)

-- how far a journal follows what a client recalls: its entries and the rest of its list are the list, or it strayed and they are no prefix of it
abbrev pub IsProgress : List Entry → List Past → (followed : List ℕ) → (strayed : List Bool) → ℕ → Type 0
IsProgress journal pasts followed strayed c =
    MatchBool (slice_index_or strayed c false)
    ((rest : AnsweredOrders) → entries_of_client c journal ++ rest ≢ recalled c pasts)
    (entries_of_client c journal ++ drop (slice_index followed c) (recalled c pasts) ≡ recalled c pasts)
