-- The order step: an order's refusal, or what it leads to, and its reply.
use Rattle.std.specs.Prelude.{ℕ, ◌+◌, List, Option, Some, None, Bool, true, false, ◌==◌, ◌&&◌, not, nat_lt, if◌then◌else◌, length, slice_index, slice_set, count_by}
use Rattle.std.specs.List.{position_or_len}
use Rattle.arb_config.specs.Machine.{Machine, cores_of, socket_by_position}
use Rattle.arb_model.specs.declared.orders.Order.{Order}
use Rattle.arb_model.specs.declared.orders.Order.TheVariants.{Join, Ask, Cap, Block, Retire, Leave, Status, Tick}
use Rattle.arb_model.specs.declared.orders.Place.{Place}
use Rattle.arb_model.specs.declared.orders.Place.TheVariants.{Unmanaged, Waiting, Moved as was_moved, On}
use Rattle.arb_model.specs.declared.orders.Refusal.{Refusal}
use Rattle.arb_model.specs.declared.orders.Refusal.TheVariants.{AlreadyJoined, NotJoined, AlreadyWaiting, ClockBack, NotAThread, CapTooLarge}
use Rattle.arb_model.specs.declared.orders.Reply.{Reply}
use Rattle.arb_model.specs.declared.orders.Reply.TheVariants.{Joined, Due, Now, Done, Counts, Moved, Refused}
use Rattle.arb_model.specs.Limits.{max_cap}
use Rattle.arb_model.specs.Standing.{Seats, Standing, the_clock, app_of, holder_at, has_joined, holds, is_asked, is_held_by, is_moved, is_waiting, owned, asked_count, requests_standing, waiting_count}
use Rattle.arb_model.specs.Asks.{after_asks}
use Rattle.arb_model.specs.Grants.{after_grants}
use Rattle.arb_model.specs.Changes.{is_overdue, own_change}
use Rattle.arb_share.specs.Due.{due_of}

-- whether an order is for threads alone
abbrev pub needs_thread : Order → Bool
needs_thread (Tick moment) = false
needs_thread order = true

-- whether an order needs an application that has joined
abbrev pub needs_joined : Order → Bool
needs_joined Join = false
needs_joined (Tick moment) = false
needs_joined order = true

-- the refusal of an order's own, if it applies
abbrev pub own_refusal : Standing → ℕ → Order → Option Refusal
own_refusal s client Join = if has_joined s client then Some AlreadyJoined else None
own_refusal s client (Cap cap) = if nat_lt max_cap cap then Some CapTooLarge else None
own_refusal s client Block = if is_waiting s.seats client then Some AlreadyWaiting else None
own_refusal s client (Tick moment) = if nat_lt moment s.clock then Some (ClockBack s.clock) else None
own_refusal s client order = None

-- the first refusal that applies: not a thread, not joined, the order's own
abbrev pub refusal_of : Standing → ℕ → Order → Option Refusal
refusal_of s client order =
    if needs_thread order && (client == the_clock) then Some NotAThread else (
    if needs_joined order && not (has_joined s client) then Some NotJoined else
    own_refusal s client order)

-- the cores due to each application by the requests standing
abbrev pub due_now : Machine → Standing → List ℕ
due_now m s = due_of (requests_standing s.requests s.caps) (length (cores_of m))

-- the asks and the grants that follow a change
abbrev pub rebalanced : Machine → Standing → Standing
rebalanced m s =
    let due = due_now m s in
    record s { seats = after_grants (socket_by_position m) due (after_asks (socket_by_position m) due s.clock s.seats) }

-- where a thread is, where `numbers` gives the core number of each position
abbrev pub place_in : List ℕ → Seats → ℕ → Place
place_in numbers s thread =
    let position = position_or_len (is_held_by thread) s.cores in
    if nat_lt position (length s.cores)
    then On (slice_index numbers position) (is_asked (holder_at s.cores position))
    else (if is_moved s thread then was_moved
    else (if is_waiting s thread then Waiting else Unmanaged))

-- where a thread of a machine is
abbrev pub place_of : Machine → Seats → ℕ → Place
place_of m s thread = place_in (cores_of m) s thread

-- how many threads an order moves
abbrev pub moved_by : Machine → Standing → Order → ℕ
moved_by m s (Tick moment) = count_by (holds (is_overdue m.grace moment)) s.seats.cores
moved_by m s order = 0

-- the reply to an order that isn't refused, read off the standing after it; `moved` threads were moved by it
abbrev pub reply_by : Machine → (after : Standing) → (client moved : ℕ) → Order → Reply
reply_by m after client moved Join = Joined
reply_by m after client moved (Ask request) = Due (slice_index (due_now m after) (app_of client))
reply_by m after client moved (Cap cap) = Due (slice_index (due_now m after) (app_of client))
reply_by m after client moved Block = Now (place_of m after.seats client)
reply_by m after client moved Retire = Done
reply_by m after client moved Leave = Done
reply_by m after client moved Status =
    Counts
    (slice_index (due_now m after) (app_of client))
    (owned (app_of client) after.seats.cores)
    (asked_count (app_of client) after.seats.cores)
    (waiting_count (app_of client) after.seats.waiting)
reply_by m after client moved (Tick moment) = Moved moved

-- what an order leads to: its reply, and the standing after it
pub record Outcome : Type 0 where
  pub reply : Reply
  pub standing : Standing

-- an order that is refused changes nothing; another makes its own change, then cores are asked back and granted, then it is replied to
abbrev pub answer_of : Machine → Standing → ℕ → Order → Option Refusal → Outcome
answer_of m s client order (Some refusal) = record { reply = Refused refusal; standing = s }
answer_of m s client order None =
    let after = rebalanced m (own_change m s client order) in
    record { reply = reply_by m after client (moved_by m s order) order; standing = after }

-- one order more of a client
abbrev pub counted : ℕ → Standing → Standing
counted client s = record s { counts = slice_set s.counts client (slice_index s.counts client + 1) }

-- the order step: an order of a client is counted, and answered
abbrev pub step_of : Machine → Standing → ℕ → Order → Outcome
step_of m s client order = let entered = counted client s in answer_of m entered client order (refusal_of entered client order)
