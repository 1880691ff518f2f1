-- Waiting for a core.
use Rattle.std.specs.Prelude.{ℕ, ◌≡◌, ◌≢◌, ◌⊎◌, Bool, true, false}
use mathlib.Core.List.{IsPrefix}
use Rattle.arb_config.specs.Machine.{Machine}
use Rattle.arb_model.specs.declared.orders.Order.TheVariants.{Block}
use Rattle.arb_model.specs.declared.orders.Place.{Place}
use Rattle.arb_model.specs.declared.orders.Place.TheVariants.{Unmanaged, Waiting, Moved, On}
use Rattle.arb_model.specs.declared.orders.Refusal.{Refusal}
use Rattle.arb_model.specs.declared.orders.Reply.{Reply}
use Rattle.arb_model.specs.declared.orders.Reply.TheVariants.{Refused as RefusedReply}
use Rattle.arb_client.specs.declared.faults.CollectFault.TheVariants.{Gone}
use Rattle.arb_client.specs.declared.faults.CallFault.TheVariants.{Collect}
use Rattle.arb_client.specs.declared.faults.WaitFault.{WaitFault}
use Rattle.arb_client.specs.declared.faults.WaitFault.TheVariants.{Call, Refused, Lost}
use Rattle.arb_client.specs.Calling.{Answers, FailsCall}
use Rattle.arb_client.specs.Readings.{ReadsPlace}
use Rattle.arb_client.specs.Sides.{LooksOn, SeesOn, Side}

-- a client's order to block was answered, and not refused
pub record Blocks (m : Machine) (a b : Side) : Type 0 where
  pub reply : Reply
  pub answered : Answers m a b Block reply
  pub unrefused : (refusal : Refusal) → reply ≢ RefusedReply refusal

-- a client reads that its thread is on a core
abbrev pub ReadsCore : Machine → Side → ℕ → Type 0
ReadsCore m b core = (asked : Bool) × ReadsPlace m b (On core asked)

-- the client's order to block was answered, and at or after that it read that its thread is on a core
pub record OnCore (m : Machine) (a b : Side) (core : ℕ) : Type 0 where
  pub called : Side
  pub blocks : Blocks m a called
  pub sees : LooksOn called b
  pub reads : ReadsCore m b core

-- a place that is neither a core nor waiting
abbrev pub IsLost : Place → Type 0
IsLost Unmanaged = Unit {0}
IsLost Waiting = ⊥
IsLost Moved = Unit {0}
IsLost (On core asked) = ⊥

-- the client has seen on, and is closed to orders: the server had ended when it last looked
pub record SeesEnd (a b : Side) : Type 0 where
  pub later : IsPrefix a.seen b.seen
  pub rest : b ≡ record a { seen = b.seen; steps = b.steps; shut = true; strange = false; ended = true }

-- how a look for a core ends without one: the server was seen to have ended, and the thread was read to be waiting still; or a place was read that is neither a core nor waiting
abbrev pub EndsWatch : Machine → Side → Side → WaitFault → Type 0
EndsWatch m a b (Call fault) = (fault ≡ Collect Gone) × SeesEnd a b × ReadsPlace m b Waiting
EndsWatch m a b (Refused refusal) = ⊥
EndsWatch m a b (Lost place) = IsLost place × LooksOn a b × ReadsPlace m b place

-- how one look at the place ends a wait without a core: so, and for an ended server only where that was seen before
abbrev pub EndsLook : Machine → Side → Side → WaitFault → Type 0
EndsLook m a b (Call fault) = (a.ended ≡ true) × EndsWatch m a b (Call fault)
EndsLook m a b (Refused refusal) = ⊥
EndsLook m a b (Lost place) = IsLost place × SeesOn a b × ReadsPlace m b place

-- after a look that ends no wait, the thread was read to be waiting, and the server hadn't been seen to have ended
pub record GoesOn (m : Machine) (a b : Side) : Type 0 where
  pub runs : a.ended ≡ false
  pub sees : SeesOn a b
  pub waits : ReadsPlace m b Waiting

-- the client's order to block was answered, and then the look for a core ended so
pub record WatchedInVain (m : Machine) (a b : Side) (fault : WaitFault) : Type 0 where
  pub called : Side
  pub blocks : Blocks m a called
  pub ends : EndsWatch m called b fault

-- why a wait for a core ended without one
abbrev pub FailsWait : Machine → Side → Side → WaitFault → Type 0
FailsWait m a b (Call fault) = FailsCall m a b Block fault ⊎ WatchedInVain m a b (Call fault)
FailsWait m a b (Refused refusal) = Answers m a b Block (RefusedReply refusal)
FailsWait m a b (Lost place) = WatchedInVain m a b (Lost place)
