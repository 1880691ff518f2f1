-- What was written of the bytes that were on their way to a writer.
use Rattle.std.specs.Prelude.{◌≡◌, ◌≢◌, ℕ, List, OnErr, OnOk, ◌++◌, Option, Result}
use Rattle.std.specs.Io.KnownBytes.{Appends}
use Rattle.arb_share.specs.Streams.{AppendsPrefix}

-- of the bytes on their way a prefix was written, and the rest is still on its way
abbrev pub Moves : (old new : Option (List ℕ)) → (before after : List ℕ) → Type 0
Moves old new before after = (sent : List ℕ) × Appends old new sent × (before ≡ sent ++ after)

-- a text is on its way to a sink, of which these are the contents and the number that changes at each failed call: where no
-- call failed, what isn't written of it is left, else a prefix of it was written
pub record Sends {W A E : Type 0} (contents : W → Option (List ℕ)) (failures : W → ℕ) (old new : W) (result : Result A E) (text left : List ℕ) : Type 0 where
  pub moved : OnOk result (Moves (contents old) (contents new) text left)
  pub prefix : OnErr result (AppendsPrefix (contents old) (contents new) text)
  pub ok : OnOk result (failures new ≡ failures old)
  pub err : OnErr result (failures new ≢ failures old)
