-- The standing of the arbiter: who asked for what, and who is where.
use Rattle.std.specs.Prelude.{ℕ, ◌/◌, List, [], Option, Some, None, Bool, true, false, ◌==◌, ◌&&◌, length, slice_index, slice_index_or, is_some, count_by, option_map, replicate}
use Rattle.std.specs.List.{list_any}
use Rattle.arb_share.specs.Limits.{applications}
use Rattle.arb_share.specs.Cut.{cut_of}
use Rattle.arb_config.specs.Machine.{Machine, cores_of}
use Rattle.arb_model.specs.declared.holders.Holder.{Holder}
use Rattle.arb_model.specs.Limits.{all_threads, clients, threads}
use Rattle.arb_model.specs.Lists.{count_below, each_at}

-- clients are numbered: thread t of application a is threads * a + t, and the clock comes last
abbrev pub the_clock : ℕ
the_clock = all_threads

-- the application of a thread
abbrev pub app_of : ℕ → ℕ
app_of thread = thread / threads

-- who is where; a thread that is in none of these is unmanaged
pub record Seats : Type 0 where
  -- who is on each managed core, by position, with or without an asking moment; none where the core is free
  pub cores : List (Option Holder)
  -- the waiting threads, the longest waiting first
  pub waiting : List ℕ
  -- of each thread, whether it was moved
  pub moved : List Bool

-- the standing
pub record Standing : Type 0 where
  -- the request of each application, none where it has not joined
  pub requests : List (Option (List ℕ))
  -- the cap of each application, none where it has none
  pub caps : List (Option ℕ)
  -- who is where
  pub seats : Seats
  -- the latest moment, in microseconds
  pub clock : ℕ
  -- how many orders of each client were entered
  pub counts : List ℕ

-- the request of an application
abbrev pub request_of : Standing → ℕ → Option (List ℕ)
request_of s app = slice_index_or s.requests app None

-- the cap of an application
abbrev pub cap_of : Standing → ℕ → Option ℕ
cap_of s app = slice_index_or s.caps app None

-- what of a request stands: all of it, or where there is a cap the request cut there
abbrev pub cut_at : Option ℕ → List ℕ → List ℕ
cut_at None request = request
cut_at (Some cap) request = cut_of cap request

-- the requests standing: each application's, cut at its cap
abbrev pub requests_standing : (requests : List (Option (List ℕ))) → (caps : List (Option ℕ)) → List (Option (List ℕ))
requests_standing requests caps = each_at (λ app request. option_map (cut_at (slice_index_or caps app None)) request) 0 requests

-- whether a thread's application has joined
abbrev pub has_joined : Standing → ℕ → Bool
has_joined s thread = is_some (request_of s (app_of thread))

-- who is on the core at a position
abbrev pub holder_at : List (Option Holder) → ℕ → Option Holder
holder_at cores position = slice_index_or cores position None

-- whether a core is free
abbrev pub is_free : Option Holder → Bool
is_free None = true
is_free (Some holder) = false

-- whether a thread is on a core, and passes a test
abbrev pub holds : (Holder → Bool) → Option Holder → Bool
holds test None = false
holds test (Some holder) = test holder

-- whether a core is held by a thread
abbrev pub is_held_by : ℕ → Option Holder → Bool
is_held_by thread core = holds (λ holder. holder.thread == thread) core

-- whether a core is owned by an application
abbrev pub is_of : ℕ → Option Holder → Bool
is_of app None = false
is_of app (Some holder) = app_of holder.thread == app

-- whether a core is asked back
abbrev pub is_asked : Option Holder → Bool
is_asked None = false
is_asked (Some holder) = is_some holder.asked

-- whether a thread waits
abbrev pub is_waiting : Seats → ℕ → Bool
is_waiting s thread = list_any (λ t. t == thread) s.waiting

-- whether a thread was moved
abbrev pub is_moved : Seats → ℕ → Bool
is_moved s thread = slice_index_or s.moved thread false

-- how many cores an application owns, asked ones included
abbrev pub owned : ℕ → List (Option Holder) → ℕ
owned app cores = count_below (λ p. is_of app (holder_at cores p)) (length cores)

-- how many of them are on a socket, where `sockets` gives the socket of each position
abbrev pub owned_on : List ℕ → List (Option Holder) → ℕ → ℕ → ℕ
owned_on sockets cores app socket = count_below (λ p. is_of app (holder_at cores p) && (slice_index sockets p == socket)) (length cores)

-- how many of an application's cores are asked back
abbrev pub asked_count : ℕ → List (Option Holder) → ℕ
asked_count app cores = count_below (λ p. is_of app (holder_at cores p) && is_asked (holder_at cores p)) (length cores)

-- how many cores are free
abbrev pub free_count : List (Option Holder) → ℕ
free_count cores = count_below (λ p. is_free (holder_at cores p)) (length cores)

-- how many threads of an application wait
abbrev pub waiting_count : ℕ → List ℕ → ℕ
waiting_count app waiting = count_by (λ thread. app_of thread == app) waiting

-- all threads are unmanaged, and so many managed cores are free
abbrev pub nobody : ℕ → Seats
nobody managed = record { cores = replicate managed None; waiting = []; moved = replicate all_threads false }

-- the opening standing of a machine: nobody joined, all threads are unmanaged, and the clock is 0
abbrev pub opening : Machine → Standing
opening m =
    record {
      requests = replicate applications None;
      caps = replicate applications None;
      seats = nobody (length (cores_of m));
      clock = 0;
      counts = replicate clients 0;
    }
