-- What took place on a two-way stream, in turn.
use Rattle.std.specs.Prelude.{◌≡◌, ℕ, ◌+◌, List, [], ◌∷◌, ◌++◌, Option, Some, None, ⊤}
use Rattle.std.specs.Io.KnownBytes.{Appends, Consumes}
use Rattle.arb_live.specs.declared.event.Event.{Event}
use Rattle.arb_live.specs.declared.event.Event.TheVariants.{Asked, Got, Put, Flushed}

-- the bytes that came
abbrev pub got_in : List Event → List ℕ
got_in [] = []
got_in (Asked ∷ events) = got_in events
got_in (Got byte ∷ events) = byte ∷ got_in events
got_in (Put byte ∷ events) = got_in events
got_in (Flushed ∷ events) = got_in events

-- the bytes that were written
abbrev pub put_in : List Event → List ℕ
put_in [] = []
put_in (Asked ∷ events) = put_in events
put_in (Got byte ∷ events) = put_in events
put_in (Put byte ∷ events) = byte ∷ put_in events
put_in (Flushed ∷ events) = put_in events

-- the bytes that wait to be flushed after the events, where these waited before them
abbrev pub waiting_after : (waiting : List ℕ) → List Event → List ℕ
waiting_after waiting [] = waiting
waiting_after waiting (Asked ∷ events) = waiting_after waiting events
waiting_after waiting (Got byte ∷ events) = waiting_after waiting events
waiting_after waiting (Put byte ∷ events) = waiting_after (waiting ++ byte ∷ []) events
waiting_after waiting (Flushed ∷ events) = waiting_after [] events

-- the bytes that were written and wait to be flushed
abbrev pub waiting_in : List Event → List ℕ
waiting_in events = waiting_after [] events

-- how often more input was asked for
abbrev pub reads_in : List Event → ℕ
reads_in [] = 0
reads_in (Asked ∷ events) = reads_in events + 1
reads_in (Got byte ∷ events) = reads_in events
reads_in (Put byte ∷ events) = reads_in events
reads_in (Flushed ∷ events) = reads_in events

-- the bytes came
abbrev pub gets : (bytes : List ℕ) → List Event
gets [] = []
gets (byte ∷ bytes) = Got byte ∷ gets bytes

-- the bytes were written
abbrev pub puts : (bytes : List ℕ) → List Event
puts [] = []
puts (byte ∷ bytes) = Put byte ∷ puts bytes

-- more input was asked for, and these bytes came
abbrev pub asked : (bytes : List ℕ) → List Event
asked bytes = Asked ∷ gets bytes

-- what a stream tells, each where it is known: the bytes that will come, those that it holds, and what took place so far
pub record Told : Type 0 where
  pub remaining : Option (List ℕ)
  pub contents : Option (List ℕ)
  pub events : Option (List Event)

-- known events stay where they are, and these follow them
abbrev pub Adds : (old new : Option (List Event)) → List Event → Type 0
Adds None new events = ⊤
Adds (Some before) None events = ⊥
Adds (Some before) (Some after) events = after ≡ before ++ events

-- these events took place, as far as the stream tells
pub record Did (old new : Told) (events : List Event) : Type 0 where
  pub came : Consumes old.remaining new.remaining (got_in events)
  pub written : Appends old.contents new.contents (put_in events)
  pub told : Adds old.events new.events events
