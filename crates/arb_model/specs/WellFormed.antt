-- Which standings are well formed.
use Rattle.std.specs.Prelude.{◌≡◌, ℕ, ◌+◌, ◌<◌, ◌≤◌, List, Option, Some, true, ◌==◌, if◌then◌else◌, is_some, length, count_by, All}
use Rattle.arb_share.specs.Limits.{applications, levels, max_entry}
use Rattle.arb_config.specs.Machine.{Machine, cores_of}
use Rattle.arb_model.specs.declared.holders.Holder.{Holder}
use Rattle.arb_model.specs.Limits.{all_threads, clients, max_cap}
use Rattle.arb_model.specs.Standing.{Seats, Standing, cap_of, is_held_by, is_moved, has_joined, request_of}

-- how many cores a thread is on
abbrev pub times_on : ℕ → List (Option Holder) → ℕ
times_on thread cores = count_by (is_held_by thread) cores

-- how often a thread stands in the waiting list
abbrev pub times_waiting : ℕ → List ℕ → ℕ
times_waiting thread waiting = count_by (λ t. t == thread) waiting

-- in how many places a thread is: cores, places of the waiting list, the moved marks
abbrev pub times_placed : Seats → ℕ → ℕ
times_placed s thread = times_on thread s.cores + times_waiting thread s.waiting + (if is_moved s thread then 1 else 0)

-- a request: an entry for each level, each within the limit
abbrev pub IsRequest : List ℕ → Type 0
IsRequest request = (length request ≡ levels) × All (λ entry. entry ≤ max_entry) request

-- a well formed standing of a machine; that a core has one holder at most is the form of the list of cores
pub record IsStanding (m : Machine) (s : Standing) : Type 0 where
  pub requests : length s.requests ≡ applications
  -- what an application that has joined asked for is a request
  pub requests_fit : (app : ℕ) (request : List ℕ) → request_of s app ≡ Some request → IsRequest request
  pub caps : length s.caps ≡ applications
  -- a cap is within the limit, and of an application that has joined
  pub caps_fit : (app cap : ℕ) → cap_of s app ≡ Some cap → (cap ≤ max_cap) × (is_some (request_of s app) ≡ true)
  pub cores : length s.seats.cores ≡ length (cores_of m)
  pub moved : length s.seats.moved ≡ all_threads
  pub counts : length s.counts ≡ clients
  -- a thread is in one place at most
  pub once : (thread : ℕ) → times_placed s.seats thread ≤ 1
  -- and its application has joined
  pub joined : (thread : ℕ) → 0 < times_placed s.seats thread → has_joined s thread ≡ true
