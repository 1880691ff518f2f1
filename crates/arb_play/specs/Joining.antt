-- What holds of all threads.
use Rattle.std.specs.Prelude.{ℕ, ◌≡◌, ◌==◌, nat_le, if◌then◌else◌, MatchOption, Option, Some, None, List, [], ◌∷◌, length, map, take}
use Rattle.arb_model.specs.declared.orders.Order.{Order}
use Rattle.arb_desk.specs.declared.past.Past.{Past}
use Rattle.arb_script.specs.declared.given.ClientOrder.{ClientOrder}
use Rattle.arb_play.specs.GivingUp.{IsGivenUp, MayBeLetThrough}
use Rattle.arb_play.specs.Scripts.{ordered}
use Rattle.arb_play.specs.Walking.{order_in}

-- from which index on a client's orders are full: the first that stands with it
abbrev pub full_from_of : (client : ℕ) → List (ℕ × ℕ) → ℕ
full_from_of client [] = 0
full_from_of client (l ∷ pairs) = if l.0 == client then l.1 else full_from_of client pairs

-- who leaves a past, and which orders of it were answered
abbrev pub told : Past → ℕ × List Order
told past = (past.client, map order_in past.mine.items)

-- a client with its orders before an index
abbrev pub before : List ClientOrder → ℕ × ℕ → ℕ × List Order
before script l = (l.0, ordered l.0 (take l.1 script))

-- each past has an index before which stand the orders that were answered
abbrev pub AllAnswered : List ClientOrder → List Past → List (ℕ × ℕ) → Type 0
AllAnswered script pasts pairs = map told pasts ≡ map (before script) pairs

-- the lesser of two orders, where there are both
abbrev pub earlier_of : Option ℕ → Option ℕ → Option ℕ
earlier_of None b = b
earlier_of (Some a) None = Some a
earlier_of (Some a) (Some b) = if nat_le a b then Some a else Some b

-- the first order that was given up, or all were let through
abbrev pub GivesUp : (may lets : ℕ → Type 0) → (script : List ClientOrder) → Option ℕ → Type 0
GivesUp may lets script gave_up = MatchOption gave_up (MayBeLetThrough lets (length script)) (IsGivenUp may lets script)
