-- What the answers of `due` say of its input.
use Rattle.std.specs.Prelude.{ℕ, ◌<◌, ◌≤◌, List, Option, length}
use Rattle.arb_share.specs.declared.due_input.DueFault.{DueFault}
use Rattle.arb_share.specs.declared.due_input.DueFault.TheVariants.{Row, Read, TooLong, Write}
use Rattle.arb_share.specs.Limits.{max_input}
use Rattle.arb_share.specs.Rows.{AreRows, IsFirstFault, said_in}

-- the input is within its limit, and its lines state these requests
pub record IsAccepted (rows : List (Option (List ℕ))) (input : List ℕ) : Type 0 where
  pub short : length input ≤ max_input
  pub states : AreRows (said_in input) rows

-- the fault is in the input: it is longer than its limit, or a line is the first faulty one; a fault of reading
-- or writing says nothing of it
abbrev pub IsRefused : DueFault → (input : List ℕ) → Type 0
IsRefused (Row fault) input = (length input ≤ max_input) × IsFirstFault (said_in input) fault
IsRefused TooLong input = max_input < length input
IsRefused Read input = Unit {0}
IsRefused Write input = Unit {0}
