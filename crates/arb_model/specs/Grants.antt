-- The grants: which free cores are given to which waiting threads.
use Rattle.std.specs.Prelude.{ℕ, ◌+◌, ◌-◌, List, [], ◌∷◌, Option, Some, None, ◌==◌, length, slice_index, slice_set, map, min, remove, zero, suc}
use Rattle.std.specs.List.{position_or_len, range_with_len}
use Rattle.arb_share.specs.Limits.{applications}
use Rattle.arb_model.specs.declared.holders.Holder.{Holder}
use Rattle.arb_model.specs.Pick.{Key}
use Rattle.arb_model.specs.Lists.{each_at}
use Rattle.arb_model.specs.Standing.{Seats, app_of, is_free, owned, owned_on, free_count, waiting_count}
use Rattle.arb_model.specs.Least.{least_of}
use Rattle.arb_share.specs.Division.{even_of}

-- an application's need: what it owns below its due number, and no more than it has threads waiting
abbrev pub need_of : Seats → List ℕ → ℕ → ℕ
need_of s due app = min (slice_index due app - owned app s.cores) (waiting_count app s.waiting)

-- how many cores each application is granted: the free cores divided evenly over the needs
abbrev pub grants_of : Seats → List ℕ → List ℕ
grants_of s due = even_of (map (need_of s due) (range_with_len 0 applications)) (free_count s.cores)

-- the key by which an application takes the free core at a position: the socket where it owns most cores first, then the smaller socket; then the smaller position
abbrev pub grant_key : List ℕ → List (Option Holder) → ℕ → ℕ → Key
grant_key sockets cores app position =
    record { first = length cores - owned_on sockets cores app (slice_index sockets position); second = slice_index sockets position; third = 0 }

-- these keys of all positions
abbrev pub grant_keys : List ℕ → List (Option Holder) → ℕ → List Key
grant_keys sockets cores app = each_at (λ p _. grant_key sockets cores app p) 0 cores

-- the position of the free core of least key, or the number of cores where none is free
unfoldable pub next_core : List ℕ → List (Option Holder) → ℕ → ℕ
next_core sockets cores app = position_or_len (λ picked. picked) (least_of (grant_keys sockets cores app) (map is_free cores) 1)

-- one grant to an application: its longest waiting thread gets that core
unfoldable pub granted : List ℕ → ℕ → Seats → Seats
granted sockets app s =
    let turn = position_or_len (λ thread. app_of thread == app) s.waiting in
    record s {
      cores = slice_set s.cores (next_core sockets s.cores app) (Some (record { thread = slice_index s.waiting turn; asked = None }));
      waiting = remove s.waiting turn;
    }

-- so many grants to one application, each on the seats that the one before left
abbrev pub granted_times : List ℕ → (app : ℕ) → (times : ℕ) → Seats → Seats
granted_times sockets app zero s = s
granted_times sockets app (suc times) s = granted_times sockets app times (granted sockets app s)

-- the applications from one number on take their grants in ascending order
abbrev pub granted_from : List ℕ → (app : ℕ) → List ℕ → Seats → Seats
granted_from sockets app [] s = s
granted_from sockets app (times ∷ rest) s = granted_from sockets (app + 1) rest (granted_times sockets app times s)

-- the seats after the grants
abbrev pub after_grants : List ℕ → List ℕ → Seats → Seats
after_grants sockets due s = granted_from sockets 0 (grants_of s due) s
