-- The laws of the definitions. Each is the contract of a function of the crate's module `laws`.
use Rattle.std.specs.Prelude.{◌≡◌, ◌≢◌, ℕ, ◌+◌, ◌<◌, ◌⊎◌, List, [], ◌∷◌, ◌++◌, Bool, true, false, Some, None, length, slice_index, slice_set, fold}
use mathlib.Core.List.{IsPrefix}
use Rattle.arb_share.specs.Division.{ExactlyOne}
use Rattle.arb_config.specs.Machine.{Machine, IsMachine, cores_of}
use Rattle.arb_model.specs.declared.orders.Entry.{Entry}
use Rattle.arb_model.specs.declared.orders.Event.{Event}
use Rattle.arb_model.specs.declared.orders.Event.TheVariants.{Entered, Posted}
use Rattle.arb_model.specs.declared.orders.Order.{Order}
use Rattle.arb_model.specs.Limits.{clients}
use Rattle.arb_model.specs.Layout.{word_count}
use Rattle.arb_model.specs.Standing.{Standing, opening}
use Rattle.arb_model.specs.WellFormed.{IsStanding}
use Rattle.arb_model.specs.Pick.{Key, PicksLeast}
use Rattle.arb_model.specs.Least.{least_of}
use Rattle.arb_model.specs.Step.{step_of}
use Rattle.arb_model.specs.Owners.{ChangesOwners, KeepsUnasked}
use Rattle.arb_model.specs.Words.{word_of}
use Rattle.arb_model.specs.Posting.{is_stale, names_stale, next_stale_of, posts_of, stale_count}
use Rattle.arb_model.specs.History.{History, State, state_next, state_after, LegalFrom, IsLegal, MayFollow, FitsOrder, orders_in, count_of, NamesNoCoreTwice}
use Rattle.arb_model.specs.Reading.{reading, word_written, ReadsNoCoreTwice}

-- so many of some candidates can be picked by their keys in exactly one way
abbrev pub HasOneLeast : Type 0
HasOneLeast = (keys : List Key) (candidates : List Bool) (size : ℕ) → ExactlyOne (PicksLeast keys candidates size)

-- and `least_of` is its name
abbrev pub NamesTheLeast : Type 0
NamesTheLeast = (keys : List Key) (candidates : List Bool) (size : ℕ) → PicksLeast keys candidates size (least_of keys candidates size)

-- the opening standing is well formed
abbrev pub OpensWellFormed : Type 0
OpensWellFormed = (m : Machine) → IsStanding m (opening m)

-- an order whose numbers fit their types keeps a standing well formed
abbrev pub StaysWellFormed : Type 0
StaysWellFormed = (m : Machine) (s : Standing) (client : ℕ) (order : Order) → IsMachine m → IsStanding m s → FitsOrder order → IsStanding m (step_of m s client order).standing

-- a core keeps its owner, unless that one loses it by the order
abbrev pub KeepsOwners : Type 0
KeepsOwners = (m : Machine) (s : Standing) (client : ℕ) (order : Order) → IsMachine m → length s.seats.cores ≡ length (cores_of m) → ChangesOwners m s client order (step_of m s client order).standing.seats

-- so a core that isn't asked back keeps its owner, unless its thread blocks or retires or its application leaves
abbrev pub KeepsOwnersUnasked : Type 0
KeepsOwnersUnasked = (m : Machine) (s : Standing) (client : ℕ) (order : Order) → IsMachine m → length s.seats.cores ≡ length (cores_of m) → KeepsUnasked client order s.seats (step_of m s client order).standing.seats

-- each post makes the number of stale words less by one
abbrev pub PostsOneLess : Type 0
PostsOneLess = (s : Standing) (posted : List ℕ) (w : ℕ) → length posted ≡ word_count → next_stale_of s posted ≡ Some w → stale_count s (slice_set posted w (word_of s w)) + 1 ≡ stale_count s posted

-- where no word is stale, none is next
abbrev pub PostsAreDone : Type 0
PostsAreDone = (s : Standing) (posted : List ℕ) → stale_count s posted ≡ 0 → next_stale_of s posted ≡ None

-- and where no word is next, none is stale: each has what the standing has
abbrev pub NoneNextNoneStale : Type 0
NoneNextNoneStale = (s : Standing) (posted : List ℕ) → next_stale_of s posted ≡ None → (w : ℕ) → w < word_count → slice_index posted w ≡ word_of s w

-- a number passes a test, and no smaller one does
abbrev pub IsFirst : (ℕ → Bool) → ℕ → Type 0
IsFirst passes w = (passes w ≡ true) × ((v : ℕ) → v < w → passes v ≡ false)

-- a stale word whose turn it is
pub record IsNext (s : Standing) (posted : List ℕ) (w : ℕ) : Type 0 where
  pub within : w < word_count
  pub stale : is_stale s posted w ≡ true
  -- the first of the stale place words that name cores; where there is none, the first stale word
  pub turn : IsFirst (names_stale s posted) w ⊎ (((v : ℕ) → v < word_count → names_stale s posted v ≡ false) × IsFirst (is_stale s posted) w)

-- the next word is stale, and the least of its group
abbrev pub NextIsLeast : Type 0
NextIsLeast = (s : Standing) (posted : List ℕ) (w : ℕ) → next_stale_of s posted ≡ Some w → IsNext s posted w

-- posts that are legal, keep the standing, and leave no word stale
pub record BringsUpToDate (m : Machine) (k : State) (posts : History) : Type 0 where
  pub legal : LegalFrom m k posts
  pub standing : (fold (state_next m) k posts).standing ≡ k.standing
  pub long : length (fold (state_next m) k posts).posted ≡ word_count
  pub settled : next_stale_of k.standing (fold (state_next m) k posts).posted ≡ None

-- posting ends: the posts that follow bring a state up to date
abbrev pub PostingEnds : Type 0
PostingEnds = (m : Machine) (k : State) → length k.posted ≡ word_count → BringsUpToDate m k (posts_of k.standing k.posted)

-- the empty history is legal
abbrev pub EmptyIsLegal : Type 0
EmptyIsLegal = (m : Machine) → IsLegal m []

-- and reads 0
abbrev pub EmptyReadsZero : Type 0
EmptyReadsZero = (w : ℕ) → reading [] w ≡ 0

-- a prefix of a legal history is legal
abbrev pub PrefixIsLegal : Type 0
PrefixIsLegal = (m : Machine) (before whole : History) → IsPrefix before whole → IsLegal m whole → IsLegal m before

-- a legal history goes on with each event that may follow
abbrev pub LegalGoesOn : Type 0
LegalGoesOn = (m : Machine) (h : History) (e : Event) → IsLegal m h → MayFollow m h e → IsLegal m (h ++ e ∷ [])

-- and only so: each event of a legal history might follow those before it
abbrev pub LegalWasAllowed : Type 0
LegalWasAllowed = (m : Machine) (before rest : History) (e : Event) → IsLegal m (before ++ e ∷ rest) → MayFollow m before e

-- an event changes the reading of at most its own word
abbrev pub OthersReadTheSame : Type 0
OthersReadTheSame = (h : History) (e : Event) (w : ℕ) → word_written e ≢ w → reading (h ++ e ∷ []) w ≡ reading h w

-- an order adds one to word 0
abbrev pub OrdersAddOne : Type 0
OrdersAddOne = (h : History) (e : Entry) → reading (h ++ Entered e ∷ []) 0 ≡ reading h 0 + 1

-- a post sets its word
abbrev pub PostsAreRead : Type 0
PostsAreRead = (h : History) (w value : ℕ) → w ≢ 0 → reading (h ++ Posted w value ∷ []) w ≡ value

-- the state after one event more
abbrev pub StatesFollow : Type 0
StatesFollow = (m : Machine) (h : History) (e : Event) → state_after m (h ++ e ∷ []) ≡ state_next m (state_after m h) e

-- the standing after a legal history is well formed
abbrev pub LegalIsWellFormed : Type 0
LegalIsWellFormed = (m : Machine) (h : History) → IsMachine m → IsLegal m h → IsStanding m (state_after m h).standing

-- the reading of a word after a legal history is its posted word there
abbrev pub ReadsPosted : Type 0
ReadsPosted = (m : Machine) (h : History) (w : ℕ) → IsMachine m → IsLegal m h → w < word_count → reading h w ≡ slice_index (state_after m h).posted w

-- no core is posted twice, at any point of any legal history
abbrev pub NoCoreTwice : Type 0
NoCoreTwice = (m : Machine) (h : History) → IsMachine m → IsLegal m h → NamesNoCoreTwice (state_after m h).posted

-- nor do two readings at one point name one core
abbrev pub NoCoreReadTwice : Type 0
NoCoreReadTwice = (m : Machine) (h : History) → IsMachine m → IsLegal m h → ReadsNoCoreTwice h

-- each client's count is the number of its entries
abbrev pub CountsEntries : Type 0
CountsEntries = (m : Machine) (h : History) (client : ℕ) → IsMachine m → IsLegal m h → client < clients → slice_index (state_after m h).standing.counts client ≡ count_of h client

-- an entry's number is the count of its client's earlier entries in the very history
abbrev pub NumbersEntries : Type 0
NumbersEntries = (m : Machine) (before rest : History) (e : Entry) → IsMachine m → IsLegal m (before ++ Entered e ∷ rest) → e.number ≡ count_of before e.client

-- fewer orders than the limit stand before an entry
abbrev pub EntriesHaveRoom : Type 0
EntriesHaveRoom = (m : Machine) (before rest : History) (e : Entry) → IsMachine m → IsLegal m (before ++ Entered e ∷ rest) → orders_in before < m.orders

-- an order that may follow has room too
abbrev pub NextHasRoom : Type 0
NextHasRoom = (m : Machine) (h : History) (e : Entry) → IsMachine m → IsLegal m h → MayFollow m h (Entered e) → orders_in h < m.orders

-- a post that may follow is of a page word but word 0
abbrev pub PostsWords : Type 0
PostsWords = (m : Machine) (h : History) (w value : ℕ) → IsMachine m → IsLegal m h → MayFollow m h (Posted w value) → (0 < w) × (w < word_count)
