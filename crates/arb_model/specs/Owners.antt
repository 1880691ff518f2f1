-- Who owns which core, who gives one up by an order, and who gains one.
use Rattle.std.specs.Prelude.{◌≡◌, ℕ, ◌<◌, ◌⊎◌, Option, Some, None, Bool, true, false, ◌==◌, ◌&&◌, ◌||◌, is_none, length, slice_index}
use Rattle.arb_config.specs.Machine.{Machine, cores_of}
use Rattle.arb_model.specs.declared.holders.Holder.{Holder}
use Rattle.arb_model.specs.declared.orders.Order.{Order}
use Rattle.arb_model.specs.declared.orders.Order.TheVariants.{Block, Retire, Leave, Tick}
use Rattle.arb_model.specs.Standing.{Seats, Standing, app_of, holder_at, holds, is_free, is_held_by}
use Rattle.arb_model.specs.WellFormed.{times_waiting}
use Rattle.arb_model.specs.Changes.{is_overdue}
use Rattle.arb_model.specs.Step.{refusal_of}

-- a thread owns the core of a number: it holds the core at that core's position
pub record IsOwner (m : Machine) (s : Seats) (core thread : ℕ) : Type 0 where
  pub position : ℕ
  pub within : position < length (cores_of m)
  pub number : slice_index (cores_of m) position ≡ core
  pub holder : is_held_by thread (holder_at s.cores position) ≡ true

-- whether a holder loses its core by an order of a client that isn't refused: it blocks or retires, its application leaves, or it is moved
abbrev pub loses : Machine → ℕ → Order → Holder → Bool
loses m client Block holder = holder.thread == client
loses m client Retire holder = holder.thread == client
loses m client Leave holder = app_of holder.thread == app_of client
loses m client (Tick moment) holder = is_overdue m.grace moment holder
loses m client order holder = false

-- whether a core was free, or its holder loses it by the order; nobody loses a core by an order that is refused
abbrev pub is_left : Machine → Standing → ℕ → Order → Option Holder → Bool
is_left m s client order core =
    is_free core || (is_none (refusal_of s client order) && holds (loses m client order) core)

-- a core keeps its owner: an order changes the owner of a core only where the core was free or its holder loses it
pub record ChangesOwners (m : Machine) (s : Standing) (client : ℕ) (order : Order) (after : Seats) : Type 0 where
  -- a holder that doesn't lose its core keeps it
  pub keeps : (p thread : ℕ) → is_held_by thread (holder_at s.seats.cores p) ≡ true → is_left m s client order (holder_at s.seats.cores p) ≡ false → is_held_by thread (holder_at after.cores p) ≡ true
  -- a new holder's core was free or lost
  pub was_left : (p thread : ℕ) → is_held_by thread (holder_at after.cores p) ≡ true → is_held_by thread (holder_at s.seats.cores p) ≡ false → is_left m s client order (holder_at s.seats.cores p) ≡ true
  -- a new holder was waiting, or blocks by this order
  pub waited : (p thread : ℕ) → is_held_by thread (holder_at after.cores p) ≡ true → is_held_by thread (holder_at s.seats.cores p) ≡ false → (0 < times_waiting thread s.seats.waiting) ⊎ ((thread ≡ client) × (order ≡ Block))

-- a thread gives its core up of itself: it blocks or retires, or its application leaves
abbrev pub GivesUp : ℕ → Order → Holder → Type 0
GivesUp client order holder =
    ((order ≡ Block) × (holder.thread ≡ client)) ⊎ (((order ≡ Retire) × (holder.thread ≡ client)) ⊎ ((order ≡ Leave) × (app_of holder.thread ≡ app_of client)))

-- a core that isn't asked back keeps its owner, unless that one gives it up
abbrev pub KeepsUnasked : ℕ → Order → Seats → Seats → Type 0
KeepsUnasked client order s after =
    (p : ℕ) (holder : Holder) → holder_at s.cores p ≡ Some holder → holder.asked ≡ None → (is_held_by holder.thread (holder_at after.cores p) ≡ true) ⊎ GivesUp client order holder
