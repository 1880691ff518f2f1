-- What holds of an input when a run of it ends.
use Rattle.std.specs.Prelude.{◌≡◌, ℕ, ◌≤◌, ◌≢◌, List, length}
use Rattle.arb_script.specs.declared.fault.ScriptKind.TheVariants.{Memory}
use Rattle.arb_script.specs.declared.fault.ScriptFault.{ScriptFault}
use Rattle.arb_script.specs.declared.given.ClientOrder.{ClientOrder}
use Rattle.arb_script.specs.Script.{IsFirstFault, IsScript, StopsAt, said_in}
use Rattle.arb_script.specs.declared.runner.RunFault.{RunFault}
use Rattle.arb_script.specs.declared.runner.RunFault.TheVariants.{Read, Script, Write}
use Rattle.arb_script.specs.Input.{IsUnfit}
use Rattle.arb_script.specs.Limits.{max_script}

-- the input is within the limit, and its lines are this script
pub record IsAccepted (script : List ClientOrder) (input : List ℕ) : Type 0 where
  pub short : length input ≤ max_script
  pub is : IsScript (said_in input) script

-- a fault of the lines of an input: the first one's, or the line where memory ran out
pub record IsFaulty (fault : ScriptFault) (input : List ℕ) : Type 0 where
  pub short : length input ≤ max_script
  pub first : fault.kind ≢ Memory → IsFirstFault (said_in input) fault
  pub stopped : fault.kind ≡ Memory → StopsAt (said_in input) fault.line

-- the fault is in the input; one of writing says nothing of it
abbrev pub IsRefused : RunFault → (input : List ℕ) → Type 0
IsRefused (Read fault) input = IsUnfit max_script fault input
IsRefused (Script fault) input = IsFaulty fault input
IsRefused Write input = Unit {0}
