-- The asks: which cores are asked back, and since when.
use Rattle.std.specs.Prelude.{ℕ, ◌-◌, List, Option, Some, None, Bool, false, if◌then◌else◌, length, slice_index, map, unwrap_or}
use Rattle.arb_model.specs.declared.holders.Holder.{Holder}
use Rattle.arb_model.specs.Lists.{each_at}
use Rattle.arb_model.specs.Standing.{Seats, app_of, is_of, owned, owned_on}
use Rattle.arb_model.specs.Pick.{Key, is_set}
use Rattle.arb_model.specs.Least.{least_of}

-- a core that is asked already: the older asking first, then the smaller position;
-- another one: the fewer cores its application owns on the socket first, then the larger position
abbrev pub ask_key_by : Option ℕ → (owned_there position from_end : ℕ) → Key
ask_key_by (Some moment) owned_there position from_end = record { first = 0; second = moment; third = position }
ask_key_by None owned_there position from_end = record { first = 1; second = owned_there; third = from_end }

-- the key by which a core is asked back, where `sockets` gives the socket of each position; a free core is never asked
abbrev pub ask_key : List ℕ → List (Option Holder) → ℕ → Option Holder → Key
ask_key sockets cores position None = record { first = 2; second = 0; third = 0 }
ask_key sockets cores position (Some holder) =
    ask_key_by holder.asked (owned_on sockets cores (app_of holder.thread) (slice_index sockets position)) position (length cores - position)

-- the keys of all cores, by position
abbrev pub ask_keys : List ℕ → List (Option Holder) → List Key
ask_keys sockets cores = each_at (ask_key sockets cores) 0 cores

-- the cores asked of an application: as many as it owns above its due number, the least of its own by their keys
unfoldable pub asked_of : List ℕ → List (Option Holder) → (app due : ℕ) → List Bool
asked_of sockets cores app due = least_of (ask_keys sockets cores) (map (is_of app) cores) (owned app cores - due)

-- whether the core at a position is asked of its application
abbrev pub is_asked_back : List ℕ → List (Option Holder) → List ℕ → ℕ → Option Holder → Bool
is_asked_back sockets cores due position None = false
is_asked_back sockets cores due position (Some holder) =
    is_set (asked_of sockets cores (app_of holder.thread) (slice_index due (app_of holder.thread))) position

-- an asked core keeps its asking moment, or has the present one if it had none; a core that isn't asked has none
abbrev pub remarked : (clock : ℕ) → Bool → Option Holder → Option Holder
remarked clock asked None = None
remarked clock asked (Some holder) =
    Some (record { thread = holder.thread; asked = if asked then Some (unwrap_or holder.asked clock) else None })

-- the cores after the asks
abbrev pub cores_after_asks : List ℕ → List ℕ → (clock : ℕ) → List (Option Holder) → List (Option Holder)
cores_after_asks sockets due clock cores = each_at (λ p o. remarked clock (is_asked_back sockets cores due p o) o) 0 cores

-- the seats after the asks
abbrev pub after_asks : List ℕ → List ℕ → (clock : ℕ) → Seats → Seats
after_asks sockets due clock s = record s { cores = cores_after_asks sockets due clock s.cores }
