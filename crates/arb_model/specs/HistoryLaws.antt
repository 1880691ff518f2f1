-- More laws of histories: where they begin and settle, their entries, and places that are read. Each is the contract of a function of the crate's module `laws`.
use Rattle.std.specs.Prelude.{◌≡◌, ℕ, ◌+◌, ◌<◌, ◌≤◌, ◌↔◌, [], ◌∷◌, ◌++◌, Some, None, length, slice_get, slice_index, sum}
use mathlib.Core.List.{IsPrefix}
use Rattle.arb_config.specs.Machine.{Machine, IsMachine, cores_of}
use Rattle.arb_model.specs.declared.orders.Entry.{Entry}
use Rattle.arb_model.specs.declared.orders.Event.{Event}
use Rattle.arb_model.specs.declared.orders.Event.TheVariants.{Entered}
use Rattle.arb_model.specs.declared.orders.Order.{Order}
use Rattle.arb_model.specs.declared.orders.Reply.{Reply}
use Rattle.arb_model.specs.Limits.{all_threads}
use Rattle.arb_model.specs.Layout.{NamesACore, place_index, position_named, word_count}
use Rattle.arb_model.specs.Step.{step_of}
use Rattle.arb_model.specs.Words.{place_word, word_of}
use Rattle.arb_model.specs.Posting.{next_stale_of}
use Rattle.arb_model.specs.History.{History, IsLegal, IsSettled, MayEnter, MayFollow, MayHappen, beginning, count_of, entries_by, entries_of, entry_after, orders_in, posts_after, state_after}
use Rattle.arb_model.specs.Reading.{reading}
use Rattle.arb_model.specs.Arbiter.{IsArbiter, arbiter_in}

-- before all orders no word is stale
abbrev pub OpensSettled : Type 0
OpensSettled = (m : Machine) → next_stale_of (beginning m).standing (beginning m).posted ≡ None

-- the empty history leads to the beginning
abbrev pub StatesBegin : Type 0
StatesBegin = (m : Machine) → state_after m [] ≡ beginning m

-- the arbiter in the state after a legal history is an arbiter
abbrev pub LegalIsArbiter : Type 0
LegalIsArbiter = (m : Machine) (h : History) → IsMachine m → IsLegal m h → IsArbiter (arbiter_in m (state_after m h))

-- that a history is legal is a fact: it has one proof at most
abbrev pub LegalIsFact : Type 0
LegalIsFact = (m : Machine) (h : History) → IsProp (IsLegal m h)

-- an event may follow a history exactly where it may happen in the state after it
abbrev pub FollowsByState : Type 0
FollowsByState = (m : Machine) (h : History) (e : Event) → MayFollow m h e ↔ MayHappen m (state_after m h) e

-- an order that may be entered after a legal history may follow as the entry that is numbered by the history itself
abbrev pub EntryFollows : Type 0
EntryFollows = (m : Machine) (h : History) (client : ℕ) (order : Order) (reply : Reply) → IsMachine m → IsLegal m h → MayEnter m (state_after m h) (record { client = client; number = slice_index (state_after m h).standing.counts client; order = order; reply = reply }) → MayFollow m h (Entered (entry_after h client order reply))

-- the reply of each entry is that of the step in the state before it
abbrev pub RepliesOfSteps : Type 0
RepliesOfSteps = (m : Machine) (before rest : History) (e : Entry) → IsLegal m (before ++ Entered e ∷ rest) → e.reply ≡ (step_of m (state_after m before).standing e.client e.order).reply

-- a history goes on legally by posts alone, until no word is stale
pub record SettlesBy (m : Machine) (h posts : History) : Type 0 where
  pub legal : IsLegal m (h ++ posts)
  pub alone : orders_in posts ≡ 0
  pub settled : IsSettled m (h ++ posts)

-- each legal history settles by the posts that follow it
abbrev pub PostsSettle : Type 0
PostsSettle = (m : Machine) (h : History) → IsMachine m → IsLegal m h → SettlesBy m h (posts_after m h)

-- and by no others
abbrev pub SettlesOneWay : Type 0
SettlesOneWay = (m : Machine) (h posts : History) → IsMachine m → SettlesBy m h posts → posts ≡ posts_after m h

-- word 0 reads the number of orders
abbrev pub ReadsOrders : Type 0
ReadsOrders = (h : History) → reading h 0 ≡ orders_in h

-- where no word is stale, each word reads what the standing has
abbrev pub ReadsSettled : Type 0
ReadsSettled = (m : Machine) (h : History) (w : ℕ) → IsMachine m → IsLegal m h → IsSettled m h → w < word_count → reading h w ≡ word_of (state_after m h).standing w

-- the reading of a place word that names a core names one of the machine's positions
abbrev pub PlacesArePositions : Type 0
PlacesArePositions = (m : Machine) (h : History) (thread : ℕ) → IsMachine m → IsLegal m h → thread < all_threads → NamesACore (reading h (place_index thread)) → position_named (reading h (place_index thread)) < length (cores_of m)

-- a value was a thread's place word at a point of a history
pub record WasAt (m : Machine) (h : History) (thread value : ℕ) : Type 0 where
  pub point : History
  pub begins : IsPrefix point h
  pub is : value ≡ place_word (state_after m point).standing.seats thread

-- the reading of a place word was the thread's place word at a point of the history
abbrev pub ReadsAPlace : Type 0
ReadsAPlace = (m : Machine) (h : History) (thread : ℕ) → IsMachine m → IsLegal m h → thread < all_threads → WasAt m h thread (reading h (place_index thread))

-- and at a point no earlier than one at which no word was stale
abbrev pub ReadsAPlaceSince : Type 0
ReadsAPlaceSince = (m : Machine) (before h : History) (thread : ℕ) → IsMachine m → IsLegal m h → IsPrefix before h → IsSettled m before → thread < all_threads → (was : WasAt m h thread (reading h (place_index thread))) × IsPrefix before was.point

-- the orders of one history and of what follows add up
abbrev pub OrdersAdd : Type 0
OrdersAdd = (h more : History) → orders_in (h ++ more) ≡ orders_in h + orders_in more

-- so they become no fewer while a history goes on
abbrev pub OrdersGrow : Type 0
OrdersGrow = (before after : History) → IsPrefix before after → orders_in before ≤ orders_in after

-- the counts of a standing sum up to the orders of its history
abbrev pub SumsOrders : Type 0
SumsOrders = (m : Machine) (h : History) → IsMachine m → IsLegal m h → sum (state_after m h).standing.counts ≡ orders_in h

-- a legal history has no more orders than the limit
abbrev pub OrdersWithin : Type 0
OrdersWithin = (m : Machine) (h : History) → IsMachine m → IsLegal m h → orders_in h ≤ m.orders

-- there are as many entries as orders
abbrev pub CountsAllEntries : Type 0
CountsAllEntries = (h : History) → length (entries_of h) ≡ orders_in h

-- and a client has as many as it has orders
abbrev pub CountsOwnEntries : Type 0
CountsOwnEntries = (h : History) (client : ℕ) → length (entries_by h client) ≡ count_of h client

-- the entries of what follows stand behind those of the history
abbrev pub EntriesJoin : Type 0
EntriesJoin = (h more : History) → entries_of (h ++ more) ≡ entries_of h ++ entries_of more

-- so an entry stays at its place while a history goes on
abbrev pub EntriesStay : Type 0
EntriesStay = (before after : History) (place : ℕ) (e : Entry) → IsPrefix before after → slice_get (entries_of before) place ≡ Some e → slice_get (entries_of after) place ≡ Some e

-- the entries of a prefix are a prefix of the entries
abbrev pub EntriesBegin : Type 0
EntriesBegin = (before after : History) → IsPrefix before after → IsPrefix (entries_of before) (entries_of after)

-- and so do a client's
abbrev pub OwnEntriesBegin : Type 0
OwnEntriesBegin = (before after : History) (client : ℕ) → IsPrefix before after → IsPrefix (entries_by before client) (entries_by after client)

-- an entry's place is the number of orders before it
abbrev pub EntriesAppend : Type 0
EntriesAppend = (before rest : History) (e : Entry) → slice_get (entries_of (before ++ Entered e ∷ rest)) (orders_in before) ≡ Some e

-- an entry was entered as the order of a place
pub record WasEntered (h : History) (place : ℕ) (e : Entry) : Type 0 where
  pub before : History
  pub rest : History
  pub is : before ++ Entered e ∷ rest ≡ h
  pub orders : orders_in before ≡ place

-- each entry was entered where its place says
abbrev pub EntriesWereEntered : Type 0
EntriesWereEntered = (h : History) (place : ℕ) (e : Entry) → slice_get (entries_of h) place ≡ Some e → WasEntered h place e

-- a client's entries are numbered from 0
abbrev pub NumbersOwnEntries : Type 0
NumbersOwnEntries = (m : Machine) (h : History) (client number : ℕ) (e : Entry) → IsMachine m → IsLegal m h → slice_get (entries_by h client) number ≡ Some e → (e.client ≡ client) × (e.number ≡ number)

-- so a client has one entry of each number
abbrev pub OneOfEachNumber : Type 0
OneOfEachNumber = (m : Machine) (h : History) (p q : ℕ) (e f : Entry) → IsMachine m → IsLegal m h → slice_get (entries_of h) p ≡ Some e → slice_get (entries_of h) q ≡ Some f → e.client ≡ f.client → e.number ≡ f.number → p ≡ q
