-- What each order changes by itself, before cores are asked back and granted.
use Rattle.std.specs.Prelude.{ℕ, ◌-◌, List, [], ◌∷◌, ◌++◌, Option, Some, None, Bool, false, ◌==◌, ◌&&◌, ◌||◌, not, nat_le, if◌then◌else◌, slice_set, map, filter, replicate}
use Rattle.std.specs.List.{list_any}
use Rattle.arb_share.specs.Limits.{levels}
use Rattle.arb_config.specs.Machine.{Machine}
use Rattle.arb_model.specs.declared.holders.Holder.{Holder}
use Rattle.arb_model.specs.declared.orders.Order.{Order}
use Rattle.arb_model.specs.declared.orders.Order.TheVariants.{Join, Ask, Cap, Block, Retire, Leave, Status, Tick}
use Rattle.arb_model.specs.Lists.{each_at}
use Rattle.arb_model.specs.Standing.{Seats, Standing, app_of, holds}

-- an application's request becomes another, or none
abbrev pub with_request : ℕ → Option (List ℕ) → Standing → Standing
with_request app request s = record s { requests = slice_set s.requests app request }

-- an application's cap becomes another, or none
abbrev pub with_cap : ℕ → Option ℕ → Standing → Standing
with_cap app cap s = record s { caps = slice_set s.caps app cap }

-- a core is freed where its holder passes a test
abbrev pub free_if : (Holder → Bool) → Option Holder → Option Holder
free_if goes None = None
free_if goes (Some holder) = if goes holder then None else Some holder

-- the threads that pass become unmanaged, from any place
abbrev pub unplaced : (ℕ → Bool) → Seats → Seats
unplaced goes s =
    record s {
      cores = map (free_if (λ holder. goes holder.thread)) s.cores;
      waiting = filter (λ thread. not (goes thread)) s.waiting;
      moved = each_at (λ thread was. was && not (goes thread)) 0 s.moved;
    }

-- a thread leaves its core or the moved threads, and goes to the end of the waiting list
abbrev pub blocked : ℕ → Seats → Seats
blocked thread s = let left = unplaced (λ t. t == thread) s in record left { waiting = left.waiting ++ thread ∷ [] }

-- whether the grace has passed since an asking moment
abbrev pub is_past : (grace moment : ℕ) → Option ℕ → Bool
is_past grace moment None = false
is_past grace moment (Some since) = nat_le grace (moment - since)

-- whether a thread has stayed on an asked core for the grace, at a moment
abbrev pub is_overdue : (grace moment : ℕ) → Holder → Bool
is_overdue grace moment holder = is_past grace moment holder.asked

-- the threads that are overdue are moved, and their cores are free
abbrev pub overdue_moved : (grace moment : ℕ) → Seats → Seats
overdue_moved grace moment s =
    record s {
      cores = map (free_if (is_overdue grace moment)) s.cores;
      moved = each_at (λ thread was. was || list_any (holds (λ holder. is_overdue grace moment holder && (holder.thread == thread))) s.cores) 0 s.moved;
    }

-- what an order changes by itself
abbrev pub own_change : Machine → Standing → ℕ → Order → Standing
own_change m s client Join = with_cap (app_of client) None (with_request (app_of client) (Some (replicate levels 0)) s)
own_change m s client (Ask request) = with_request (app_of client) (Some request) s
own_change m s client (Cap cap) = with_cap (app_of client) (Some cap) s
own_change m s client Block = record s { seats = blocked client s.seats }
own_change m s client Retire = record s { seats = unplaced (λ t. t == client) s.seats }
own_change m s client Leave =
    with_cap (app_of client) None (with_request (app_of client) None (record s { seats = unplaced (λ t. app_of t == app_of client) s.seats }))
own_change m s client Status = s
own_change m s client (Tick moment) = record s { clock = moment; seats = overdue_moved m.grace moment s.seats }
