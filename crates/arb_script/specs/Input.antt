-- What is true of an input that is refused.
use Rattle.std.specs.Prelude.{ℕ, ◌<◌, ◌≤◌, List, length}
use Rattle.std.specs.Str.{IsUtf8}
use Rattle.arb_script.specs.declared.input.ReadFault.{ReadFault}
use Rattle.arb_script.specs.declared.input.ReadFault.TheVariants.{Read, TooLong, NotText, Memory}

-- the fault is in an input that may have so many bytes: it is longer, or it isn't UTF-8; a failed call and a failed allocation say nothing of it
abbrev pub IsUnfit : (limit : ℕ) → ReadFault → (input : List ℕ) → Type 0
IsUnfit limit Read input = Unit {0}
IsUnfit limit TooLong input = limit < length input
IsUnfit limit NotText input = (length input ≤ limit) × ¬ IsUtf8 input
IsUnfit limit Memory input = Unit {0}
