-- The texts of faults.
use Rattle.std.specs.Prelude.{ℕ, List, ◌++◌, codes, decimal}
use Rattle.arb_house.specs.declared.opening.OpenFault.{OpenFault}
use Rattle.arb_house.specs.declared.opening.OpenFault.TheVariants.{Twice, Memory}
use Rattle.arb_script.specs.FaultText.{write_fault_text}
use Rattle.arb_play.specs.declared.outcome.PlayFault.{PlayFault}
use Rattle.arb_play.specs.declared.outcome.PlayFault.TheVariants.{Open, Start, GaveUp, Ended, Write}

-- why a house wasn't opened
abbrev pub open_fault_text : OpenFault → List ℕ
open_fault_text (Twice client) = codes "H1 client named twice"
open_fault_text Memory = codes "out of memory"

-- why a play ended; orders count from 0
abbrev pub play_fault_text : PlayFault → List ℕ
play_fault_text (Open fault) = open_fault_text fault
play_fault_text Start = codes "P2 thread not started"
play_fault_text (GaveUp order) = codes "P3 gate gave up at order " ++ decimal order
play_fault_text Ended = codes "P4 ended early"
play_fault_text Write = write_fault_text
