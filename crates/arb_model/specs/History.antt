-- Histories: where they lead, and which are legal.
use Rattle.std.specs.Prelude.{◌≡◌, ℕ, ◌<◌, ◌^◌, ◌==◌, List, [], ◌∷◌, ◌++◌, Some, None, Bool, true, false, slice_index, slice_set, sum, replicate, fold, filter, count_by}
use Rattle.arb_config.specs.Machine.{Machine}
use Rattle.arb_model.specs.declared.orders.Order.{Order}
use Rattle.arb_model.specs.declared.orders.Order.TheVariants.{Ask, Cap, Tick}
use Rattle.arb_model.specs.declared.orders.Entry.{Entry}
use Rattle.arb_model.specs.declared.orders.Event.{Event}
use Rattle.arb_model.specs.declared.orders.Event.TheVariants.{Entered, Posted}
use Rattle.arb_model.specs.Limits.{all_threads, clients}
use Rattle.arb_model.specs.Layout.{NamesACore, place_index, position_named, word_count}
use Rattle.arb_model.specs.declared.orders.Reply.{Reply}
use Rattle.arb_model.specs.Standing.{Standing, opening}
use Rattle.arb_model.specs.WellFormed.{IsRequest}
use Rattle.arb_model.specs.Step.{step_of}
use Rattle.arb_model.specs.Words.{word_of}
use Rattle.arb_model.specs.Posting.{next_stale_of, posts_of}

-- a history: events in the order in which they happened
abbrev pub History : Type 0
History = List Event

-- a standing, and the page words as they were posted
pub record State : Type 0 where
  pub standing : Standing
  pub posted : List ℕ

-- the state before all events: the opening standing, and all words 0
abbrev pub beginning : Machine → State
beginning m = record { standing = opening m; posted = replicate word_count 0 }

-- another standing; the order that led there sets word 0 itself
abbrev pub after_order : State → Standing → State
after_order k after = record { standing = after; posted = slice_set k.posted 0 (word_of after 0) }

-- the state after one event more
abbrev pub state_next : Machine → State → Event → State
state_next m k (Entered e) = after_order k (step_of m k.standing e.client e.order).standing
state_next m k (Posted w value) = record k { posted = slice_set k.posted w value }

-- the state after a history
unfoldable pub state_after : Machine → History → State
state_after m h = fold (state_next m) (beginning m) h

-- the numbers of an order are values of their types
abbrev pub FitsOrder : Order → Type 0
FitsOrder (Ask request) = IsRequest request
FitsOrder (Cap cap) = cap < 2 ^ 8
FitsOrder (Tick moment) = moment < 2 ^ 64
FitsOrder order = Unit {0}

-- an order may be entered where no word is stale and the limit isn't reached; its entry has the count of its client's earlier orders, and the step's reply
pub record MayEnter (m : Machine) (k : State) (e : Entry) : Type 0 where
  pub client : e.client < clients
  pub fits : FitsOrder e.order
  pub settled : next_stale_of k.standing k.posted ≡ None
  pub room : sum k.standing.counts < m.orders
  pub number : e.number ≡ slice_index k.standing.counts e.client
  pub reply : e.reply ≡ (step_of m k.standing e.client e.order).reply

-- a post is of the next stale word, with the standing's value
pub record MayPost (k : State) (w value : ℕ) : Type 0 where
  pub turn : next_stale_of k.standing k.posted ≡ Some w
  pub is : value ≡ word_of k.standing w

-- an event may happen in a state
abbrev pub MayHappen : Machine → State → Event → Type 0
MayHappen m k (Entered e) = MayEnter m k e
MayHappen m k (Posted w value) = MayPost k w value

-- from a state on, each event may happen in the state that those before it led to
abbrev pub LegalFrom : Machine → State → History → Type 0
LegalFrom m k [] = Unit {0}
LegalFrom m k (e ∷ es) = MayHappen m k e × LegalFrom m (state_next m k e) es

-- a legal history
unfoldable pub IsLegal : Machine → History → Type 0
IsLegal m h = LegalFrom m (beginning m) h

-- an event may follow a history
unfoldable pub MayFollow : Machine → History → Event → Type 0
MayFollow m h e = MayHappen m (state_after m h) e

-- whether an event is an order
abbrev pub is_entry : Event → Bool
is_entry (Entered e) = true
is_entry (Posted w value) = false

-- whether an event is an order of a client
abbrev pub is_entry_of : ℕ → Event → Bool
is_entry_of client (Entered e) = e.client == client
is_entry_of client (Posted w value) = false

-- how many orders stand in a history
abbrev pub orders_in : History → ℕ
orders_in h = count_by is_entry h

-- how many orders of a client stand in a history
abbrev pub count_of : History → ℕ → ℕ
count_of h client = count_by (is_entry_of client) h

-- the posted place word of a thread
abbrev pub place_posted : List ℕ → ℕ → ℕ
place_posted posted thread = slice_index posted (place_index thread)

-- no two posted place words name one core
abbrev pub NamesNoCoreTwice : List ℕ → Type 0
NamesNoCoreTwice posted = (t u : ℕ) → t < all_threads → u < all_threads → NamesACore (place_posted posted t) → NamesACore (place_posted posted u) → position_named (place_posted posted t) ≡ position_named (place_posted posted u) → t ≡ u

-- the entries of a history, in their order; an entry's place among them is counted from 0
abbrev pub entries_of : History → List Entry
entries_of [] = []
entries_of (Entered e ∷ es) = e ∷ entries_of es
entries_of (Posted w value ∷ es) = entries_of es

-- a client's entries in a history, in their order
abbrev pub entries_by : History → ℕ → List Entry
entries_by h client = filter (λ e. e.client == client) (entries_of h)

-- the entry of a client's order after a history, with a reply; its number is how many orders of the client stand before it
abbrev pub entry_after : History → ℕ → Order → Reply → Entry
entry_after h client order reply = record { client = client; number = count_of h client; order = order; reply = reply }

-- no word is stale after a history
abbrev pub IsSettled : Machine → History → Type 0
IsSettled m h = next_stale_of (state_after m h).standing (state_after m h).posted ≡ None

-- the posts that follow a history until no word is stale
abbrev pub posts_after : Machine → History → History
posts_after m h = posts_of (state_after m h).standing (state_after m h).posted

-- a history, and the posts that follow it until no word is stale
abbrev pub settled_from : Machine → History → History
settled_from m h = h ++ posts_after m h
