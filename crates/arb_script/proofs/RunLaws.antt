-- What is said of the script that an input holds.
use Rattle.std.proofs.Common.{List, Option, Some, None, ℕ}
use Rattle.std.specs.Prelude.{IfSome}
use Rattle.arb_script.specs.declared.given.ClientOrder.{ClientOrder}
use Rattle.arb_script.specs.Run.{IsAccepted}

-- what holds of the script that was accepted holds of one that was
pub of_accepted : (left : Option (List ℕ)) (script : List ClientOrder) (Holds : List ClientOrder → Type 0) → IfSome left (IsAccepted script) → Holds script → IfSome left (λ input. (x : List ClientOrder) × IsAccepted x input × Holds x)
of_accepted None script Holds is holds = tt
of_accepted (Some input) script Holds is holds = (script, is, holds)
