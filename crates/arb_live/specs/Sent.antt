-- What calls of a two-way stream come to: the counts of failed calls, a word of `TwoWay`; and texts that are written, words
-- of inner contracts.
use Rattle.std.specs.Prelude.{◌≡◌, ◌≢◌, ℕ, List, Result, OnOk, OnErr}
use Rattle.arb_live.specs.Events.{Told, Did, puts}
use Rattle.arb_live.specs.Live.{BeginsWith}

-- of two counts of failed calls, the first changed where this call failed, and only there; the other didn't
pub record Counts {S A E : Type 0} (mine other : S → ℕ) (old new : S) (result : Result A E) : Type 0 where
  pub ok : OnOk result (mine new ≡ mine old)
  pub err : OnErr result (mine new ≢ mine old)
  pub kept : other new ≡ other old

-- a prefix of a text was written, and nothing else took place
abbrev pub WrotePrefix : (old new : Told) → (text : List ℕ) → Type 0
WrotePrefix old new text = (prefix : List ℕ) × Did old new (puts prefix) × BeginsWith text prefix

-- a text was written: all of it where no call failed, else a prefix of it
pub record Writes {S A E : Type 0} (told : S → Told) (old new : S) (result : Result A E) (text : List ℕ) : Type 0 where
  pub written : OnOk result (Did (told old) (told new) (puts text))
  pub prefix : OnErr result (WrotePrefix (told old) (told new) text)
