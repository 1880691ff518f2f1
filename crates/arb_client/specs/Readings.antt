-- What a place word says to its thread.
use Rattle.std.specs.Prelude.{ℕ, ◌≡◌, ◌<◌, Some}
use mathlib.Core.List.{IsPrefix}
use Rattle.arb_config.specs.Machine.{Machine}
use Rattle.arb_model.specs.declared.orders.Place.{Place}
use Rattle.arb_model.specs.declared.orders.Place.TheVariants.{Unmanaged}
use Rattle.arb_model.specs.Decoding.{place_in_word}
use Rattle.arb_model.specs.History.{History, state_after}
use Rattle.arb_model.specs.Layout.{place_index}
use Rattle.arb_model.specs.Limits.{all_threads}
use Rattle.arb_model.specs.Reading.{reading}
use Rattle.arb_model.specs.Standing.{the_clock}
use Rattle.arb_model.specs.Step.{place_of}
use Rattle.arb_client.specs.Sides.{Side}

-- a place was a thread's at a point of a history
pub record WasPlaced (m : Machine) (h : History) (thread : ℕ) (place : Place) : Type 0 where
  pub point : History
  pub begins : IsPrefix point h
  pub is : place ≡ place_of m (state_after m point).standing.seats thread

-- what a client reads of its place: a thread has the place word of it, in what the client has seen; the clock is unmanaged
pub record ReadsPlace (m : Machine) (b : Side) (place : Place) : Type 0 where
  pub thread : b.id < all_threads → place_in_word m (reading b.seen (place_index b.id)) ≡ Some place
  pub clock : b.id ≡ the_clock → place ≡ Unmanaged
