-- Words for asking one application's cores back, one core at a time.
use Rattle.std.specs.Prelude.{◌≡◌, ℕ, ◌<◌, ◌⊎◌, List, Option, Some, None, true, false, if◌then◌else◌, slice_index, unwrap_or, MatchOption}
use Rattle.arb_model.specs.declared.holders.Holder.{Holder}
use Rattle.arb_model.specs.Asks.{asked_of, remarked}
use Rattle.arb_model.specs.Lists.{each_at}
use Rattle.arb_model.specs.Pick.{is_set}
use Rattle.arb_model.specs.Standing.{holder_at, is_asked, is_of, owned_on}

-- the cores after the asks of one application
abbrev pub asked_app : (sockets : List ℕ) (app due clock : ℕ) → List (Option Holder) → List (Option Holder)
asked_app sockets app due clock cores =
    each_at (λ p o. if is_of app o then remarked clock (is_set (asked_of sockets cores app due) p) o else o) 0 cores

-- since when a core is asked back, and 0 where it isn't
abbrev pub moment_of : Option Holder → ℕ
moment_of None = 0
moment_of (Some holder) = unwrap_or holder.asked 0

-- how many cores an application owns on the socket of a position
abbrev pub owned_beside : (sockets : List ℕ) (cores : List (Option Holder)) (app position : ℕ) → ℕ
owned_beside sockets cores app position = owned_on sockets cores app (slice_index sockets position)

-- of an application's unasked cores below n, the next to ask: the fewer cores it owns on the socket first, then the larger position
pub record IsNextToAsk (sockets : List ℕ) (cores : List (Option Holder)) (app n place : ℕ) : Type 0 where
  pub inside : place < n
  pub is_own : is_of app (holder_at cores place) ≡ true
  pub is_left : is_asked (holder_at cores place) ≡ false
  pub first : (q : ℕ) → q < n → is_of app (holder_at cores q) ≡ true → is_asked (holder_at cores q) ≡ false → (q ≡ place) ⊎ ((owned_beside sockets cores app place < owned_beside sockets cores app q) ⊎ ((owned_beside sockets cores app place ≡ owned_beside sockets cores app q) × (q < place)))

-- of an application's asked cores below n, the next to be asked no longer: the latest asking first, then the larger position
pub record IsNextToSpare (cores : List (Option Holder)) (app n place : ℕ) : Type 0 where
  pub inside : place < n
  pub is_own : is_of app (holder_at cores place) ≡ true
  pub is_back : is_asked (holder_at cores place) ≡ true
  pub last : (q : ℕ) → q < n → is_of app (holder_at cores q) ≡ true → is_asked (holder_at cores q) ≡ true → (q ≡ place) ⊎ ((moment_of (holder_at cores q) < moment_of (holder_at cores place)) ⊎ ((moment_of (holder_at cores q) ≡ moment_of (holder_at cores place)) × (q < place)))

-- the next to ask of the cores below n, if any of the application's is unasked
abbrev pub NextToAsk : (sockets : List ℕ) (cores : List (Option Holder)) (app n : ℕ) → Option ℕ → Type 0
NextToAsk sockets cores app n next =
    MatchOption next ((q : ℕ) → q < n → is_of app (holder_at cores q) ≡ true → is_asked (holder_at cores q) ≡ true) (IsNextToAsk sockets cores app n)

-- the next to spare of the cores below n, if any of the application's is asked
abbrev pub NextToSpare : (cores : List (Option Holder)) (app n : ℕ) → Option ℕ → Type 0
NextToSpare cores app n next =
    MatchOption next ((q : ℕ) → q < n → is_of app (holder_at cores q) ≡ true → is_asked (holder_at cores q) ≡ false) (IsNextToSpare cores app n)
