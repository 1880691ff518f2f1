-- What was read from a source, and what was written to a sink.
use Rattle.std.specs.Prelude.{◌≡◌, ◌≢◌, ℕ, ◌≤◌, List, OnErr, OnOk, Option, Result, length, take}
use Rattle.std.specs.Io.KnownBytes.{Consumes, Appends}

-- at most so many bytes were taken from the front of those that are left
abbrev pub ConsumesUpTo : (most : ℕ) → (old new : Option (List ℕ)) → Type 0
ConsumesUpTo most old new = (taken : List ℕ) × (length taken ≤ most) × Consumes old new taken

-- a prefix of the text was written: all of it, a part or nothing
abbrev pub AppendsPrefix : (old new : Option (List ℕ)) → (text : List ℕ) → Type 0
AppendsPrefix old new text = (n : ℕ) × Appends old new (take n text)

-- a text was written to a sink, of which these are the contents and the number that changes at each failed call: all of it
-- where no call failed, else a prefix of it
pub record Writes {W A E : Type 0} (contents : W → Option (List ℕ)) (failures : W → ℕ) (old new : W) (result : Result A E) (text : List ℕ) : Type 0 where
  pub written : OnOk result (Appends (contents old) (contents new) text)
  pub prefix : OnErr result (AppendsPrefix (contents old) (contents new) text)
  pub ok : OnOk result (failures new ≡ failures old)
  pub err : OnErr result (failures new ≢ failures old)
