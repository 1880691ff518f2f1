-- What orders, replies, places and machines are in C.
use Rattle.std.specs.Prelude.{ℕ, List, Option, option_map, Result, Ok, Err, ◌==◌, nat_lt, if◌then◌else◌, length, slice_index}
use Rattle.std.specs.List.{list_any}
use Rattle.arb_share.specs.Limits.{max_entry}
use Rattle.arb_config.specs.Machine.{Machine, cores_of, socket_by_position}
use Rattle.arb_model.specs.declared.orders.Order.{Order}
use Rattle.arb_model.specs.declared.orders.Order.TheVariants.{Join, Ask, Cap, Block, Retire, Leave, Status, Tick}
use Rattle.arb_model.specs.declared.orders.Place.{Place}
use Rattle.arb_model.specs.declared.orders.Place.TheVariants.{Unmanaged, Waiting, Moved as was_moved, On}
use Rattle.arb_model.specs.declared.orders.Refusal.{Refusal}
use Rattle.arb_model.specs.declared.orders.Refusal.TheVariants.{AlreadyJoined, NotJoined, AlreadyWaiting, ClockBack, NotAThread, CapTooLarge}
use Rattle.arb_model.specs.declared.orders.Reply.{Reply}
use Rattle.arb_model.specs.declared.orders.Reply.TheVariants.{Joined, Due, Now, Done, Counts, Moved, Refused}
use Rattle.arb_model.specs.Arbiter.{Arbiter}
use Rattle.arb_model.specs.Lists.{one_if}
use Rattle.arb_model.specs.Standing.{asked_count, cap_of, cut_at, owned, request_of, waiting_count}
use Rattle.arb_model.specs.Step.{due_now}
use Rattle.arb_c.specs.declared.wire.WireOrder.{WireOrder}
use Rattle.arb_c.specs.declared.wire.WirePlace.{WirePlace}
use Rattle.arb_c.specs.declared.wire.WireReply.{WireReply}
use Rattle.arb_c.specs.declared.wire.WireMachine.{WireMachine}
use Rattle.arb_c.specs.declared.wire.WireCore.{WireCore}
use Rattle.arb_c.specs.declared.wire.WireCounts.{WireCounts}
use Rattle.arb_c.specs.Codes.{entry_too_large, no_order}
use Rattle.arb_c.specs.Holding.{no_limit}

-- the order that C names by its kind, or the code that says why there is none
abbrev pub order_named : WireOrder → Result Order ℕ
order_named o =
    if o.kind == 0 then Ok Join
    else if o.kind == 1 then (if list_any (nat_lt max_entry) o.request then Err entry_too_large else Ok (Ask o.request))
    else if o.kind == 2 then Ok (Cap o.cap)
    else if o.kind == 3 then Ok Block
    else if o.kind == 4 then Ok Retire
    else if o.kind == 5 then Ok Leave
    else if o.kind == 6 then Ok Status
    else if o.kind == 7 then Ok (Tick o.moment)
    else Err no_order

-- a place: unmanaged, waiting, moved, or on a core
abbrev pub place_shown : Place → WirePlace
place_shown Unmanaged = record { kind = 0; core = 0; asked = 0 }
place_shown Waiting = record { kind = 1; core = 0; asked = 0 }
place_shown was_moved = record { kind = 2; core = 0; asked = 0 }
place_shown (On core asked) = record { kind = 3; core = core; asked = one_if asked }

-- a reply of a kind that has nothing else
abbrev pub reply_blank : (kind : ℕ) → WireReply
reply_blank kind = record {
  clock = 0;
  kind = kind;
  refusal = 0;
  place = place_shown Unmanaged;
  due = 0;
  owned = 0;
  asked = 0;
  waiting = 0;
  moved = 0;
}

-- a refusal, by its number; where the clock would go back, with the clock
abbrev pub refusal_shown : Refusal → WireReply
refusal_shown AlreadyJoined = record (reply_blank 6) { refusal = 1 }
refusal_shown NotJoined = record (reply_blank 6) { refusal = 2 }
refusal_shown AlreadyWaiting = record (reply_blank 6) { refusal = 4 }
refusal_shown (ClockBack clock) = record (reply_blank 6) { refusal = 5; clock = clock }
refusal_shown NotAThread = record (reply_blank 6) { refusal = 6 }
refusal_shown CapTooLarge = record (reply_blank 6) { refusal = 7 }

-- a reply, by its kind and what it has; all else is 0
abbrev pub reply_shown : Reply → WireReply
reply_shown Joined = reply_blank 0
reply_shown (Due due) = record (reply_blank 1) { due = due }
reply_shown (Now place) = record (reply_blank 2) { place = place_shown place }
reply_shown Done = reply_blank 3
reply_shown (Counts due owned asked waiting) = record (reply_blank 4) { due = due; owned = owned; asked = asked; waiting = waiting }
reply_shown (Moved count) = record (reply_blank 5) { moved = count }
reply_shown (Refused refusal) = refusal_shown refusal

-- a machine with a limit on orders: its grace, the limit or 0 where its text states none, and how many managed cores and sockets
abbrev pub machine_shown : Machine → (limit : ℕ) → WireMachine
machine_shown m limit = record {
  grace = m.grace;
  orders = if limit == no_limit then 0 else m.orders;
  managed = length (cores_of m);
  sockets = length m.sockets;
}

-- the managed core at a position: its number and its socket
abbrev pub core_shown : Machine → (position : ℕ) → WireCore
core_shown m position = record { number = slice_index (cores_of m) position; socket = slice_index (socket_by_position m) position }

-- what an application has: cores due, owned and asked back, and threads that wait
abbrev pub counts_shown : Arbiter → (app : ℕ) → WireCounts
counts_shown a app = record {
  due = slice_index (due_now a.machine a.standing) app;
  owned = owned app a.standing.seats.cores;
  asked = asked_count app a.standing.seats.cores;
  waiting = waiting_count app a.standing.seats.waiting;
}

-- what an application asks for, as far as it counts: its request, cut at its cap where it has one; none where it hasn't joined
abbrev pub request_shown : Arbiter → (app : ℕ) → Option (List ℕ)
request_shown a app = option_map (cut_at (cap_of a.standing app)) (request_of a.standing app)
