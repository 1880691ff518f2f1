-- The clients of a server, each at an index of a list.
use Rattle.std.specs.Prelude.{ℕ, ◌≡◌, ◌==◌, ◌<◌, Bool, true, false, Option, Some, None, List, length, replicate, slice_get, slice_set}
use Rattle.std.specs.List.{position}
use Rattle.arb_model.specs.Limits.{clients}
use Rattle.arb_desk.specs.Passes.{has}

-- the clients of a server, as contracts see them: the list, and at each index whether the client there has closed
pub record Roll : Type 0 where
  pub list : List ℕ
  pub closed : List Bool

-- where a client stands in a list: its first index there
abbrev pub index_in : List ℕ → ℕ → Option ℕ
index_in list client = position (λ c. c == client) list

-- the clients of a list, none of whom has closed
abbrev pub all_open : List ℕ → Roll
all_open list = record { list = list; closed = replicate (length list) false }

-- the flags with that of an index set, if there is an index
abbrev pub flagged : List Bool → Option ℕ → List Bool
flagged closed (Some index) = slice_set closed index true
flagged closed None = closed

-- the clients after one of them has closed; one that isn't listed changes nothing
abbrev pub closing : Roll → ℕ → Roll
closing r client = record { list = r.list; closed = flagged r.closed (index_in r.list client) }

-- each client that has a pass is listed
abbrev pub ListsAll : List ℕ → List ℕ → Type 0
ListsAll list made = (client : ℕ) → has client made ≡ true → has client list ≡ true

-- each client of the list has closed
abbrev pub HaveClosed : Roll → Type 0
HaveClosed r = (index client : ℕ) → slice_get r.list index ≡ Some client → slice_get r.closed index ≡ Some true

-- a table has the index of each client, by the client's number
abbrev pub IsTable : List (Option ℕ) → List ℕ → Type 0
IsTable indexes list = (client : ℕ) → client < clients → slice_get indexes client ≡ Some (index_in list client)
